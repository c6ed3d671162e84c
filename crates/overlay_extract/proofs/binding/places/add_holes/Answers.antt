-- A further contour adds a place if it is a hole of this kind.
use Rattle.std.proofs.Common.{◌∷◌, ◌++◌, ◌<◌, [], take, length, get_or, sym, ap, ◌∙◌, subst, arith}
use Rattle.std.specs.Prelude.{IfSome, None}
use Rattle.std.proofs.lemmas.List.{get_or_default, length-map}
use Rattle.overlay_geom.proofs.Mapped.{read_mapped}
use Rattle.overlay_plane.specs.BoundContours.{contours_bound}
use Rattle.overlay_walk.specs.GroupedContours.{plain_contour, plain_contours, plain_role}
use Rattle.overlay_extract.specs.Places.{place_list, place_lists, number_as, with_place, HasHolesAdded}
use Rattle.overlay_extract.proofs.HolesPlaced.{bound_more, added_more, walk_there, with_shape, added_none, added_all}
use Rattle.overlay_extract.proofs.HolesPlaced.{number_counted}
use Rattle.overlay_extract.proofs.binding.places.add_holes.Goals as goal

pub loop-i-init : goal.loop-i-init
loop-i-init g c = added_none c.args.holes (plain_contours g.I.IntNumber.whole c.args.contours.now)
    (place_lists c.args.places.now.items) c.requires.inside

pub push_place-requires : goal.push_place-requires
push_place-requires g c =
    let plain = plain_contour g.I.IntNumber.whole in
    let cs = plain_contours g.I.IntNumber.whole c.args.contours.now in
    let i = c.loop-i.i in
    let x = c.index-contours-i.result in
    let s = get_or c.args.found.now i None in
    let inside = c.loop-i-test.true in
    let in_found : i < length c.args.found.now = omega (arith, inside, c.requires.counted) in
    let long = length-map c.args.contours.now plain in
    let read = read_mapped plain c.args.contours.now i x (plain x) inside c.index-contours-i.is in
    let more = bound_more cs c.args.found.now i (plain x) s (omega (arith, inside, long))
    in_found read (get_or_default c.args.found.now i None s in_found) in
    let counted = number_counted c.args.holes c.args.places.now.items c.loop-i.places.items
    (contours_bound cs c.args.found.now) i (plain x) s more.1 more.2 c.loop-i.invariant.counted
    c.requires.numbered in
    subst (λ number. IfSome number (λ n. n < length c.loop-i.places.items)) (sym (c.number_as-number.ensures
    ∙ ap (λ (y : _). number_as c.args.holes (plain_role y.role) s) (sym c.index-contours-i.is)))
    (subst (λ k. IfSome (number_as c.args.holes (plain x).role s) (λ n. n < k))
    (length-map c.loop-i.places.items place_list) counted)

pub loop-i-preserved : goal.loop-i-preserved
loop-i-preserved g c =
    let plain = plain_contour g.I.IntNumber.whole in
    let cs = plain_contours g.I.IntNumber.whole c.args.contours.now in
    let i = c.loop-i.i in
    let x = c.index-contours-i.result in
    let s = get_or c.args.found.now i None in
    let inside = c.loop-i-test.true in
    let in_found : i < length c.args.found.now = omega (arith, inside, c.requires.counted) in
    let long = length-map c.args.contours.now plain in
    let in_contours : i < length cs = omega (arith, inside, long) in
    let read = read_mapped plain c.args.contours.now i x (plain x) inside c.index-contours-i.is in
    let more = bound_more cs c.args.found.now i (plain x) s in_contours
    in_found read (get_or_default c.args.found.now i None s in_found) in
    let old = place_lists c.args.places.now.items in
    let lists = place_lists c.loop-i.places.items in
    let counted = number_counted c.args.holes c.args.places.now.items c.loop-i.places.items
    (contours_bound cs c.args.found.now) i (plain x) s more.1 more.2 c.loop-i.invariant.counted
    c.requires.numbered in
    subst (λ bs. HasHolesAdded c.args.holes cs bs old (place_lists c.push_place.new.places.items)) (sym more.0)
    (subst (HasHolesAdded c.args.holes cs
    (take i (contours_bound cs c.args.found.now) ++ with_shape (plain x) s ∷ []) old)
    (sym (c.in_ok-push_place.ensures.ok
    ∙ ap (λ number. with_place number i lists) (c.number_as-number.ensures
    ∙ ap (λ (y : _). number_as c.args.holes (plain_role y.role) s) (sym c.index-contours-i.is))))
    (added_more c.args.holes cs (take i (contours_bound cs c.args.found.now)) old lists i (plain x) s
    (walk_there cs i (plain x) in_contours read) in_contours counted c.loop-i.invariant))

pub returns : goal.returns
returns g c = record {
  added = let cs = plain_contours g.I.IntNumber.whole c.args.contours.now in
      added_all c.args.holes cs c.args.found.now (place_lists c.args.places.now.items)
      (place_lists c.loop-i.places.items) c.loop-i.i
      (let past = c.loop-i-test.false in
      let long = length-map c.args.contours.now (plain_contour g.I.IntNumber.whole) in omega (arith, past, long))
      c.loop-i.invariant;
}
