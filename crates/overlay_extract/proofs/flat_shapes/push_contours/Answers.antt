-- A further contour for a further place.
use Rattle.std.proofs.Common.{◌∷◌, ◌++◌, [], ◌+◌, ◌<◌, map, take, length, All, refl, sym, ap, ap₂, ◌∙◌, subst}
use Rattle.std.proofs.Common.{arith}
use Rattle.std.proofs.lemmas.List.{length-map, map-append}
use Rattle.overlay_geom.proofs.Mapped.{read_mapped}
use Rattle.overlay_geom.specs.Plane.{points_of}
use Rattle.overlay_plane.specs.PlacedContours.{walk_at}
use Rattle.overlay_walk.specs.GroupedContours.{plain_contour, plain_contours}
use Rattle.overlay_walk.specs.Steps.{plain_steps, IsLong}
use Rattle.overlay_extract.specs.TakenBehind.{IsTakenBehind, AreTakenBehind}
use Rattle.overlay_extract.specs.Places.{place_list}
use Rattle.overlay_extract.proofs.HolesPlaced.{walk_there, place_inside, place_behind}
use Rattle.overlay_extract.proofs.PlacedShapes.{walk_has}
use Rattle.overlay_extract.proofs.TakenBehind.{none_taken, one_taken}
use Rattle.overlay_extract.proofs.flat_shapes.push_contours.Goals as goal

pub loop-i-init : goal.loop-i-init
loop-i-init g c = record {
  taken = none_taken g.I.IntNumber.whole c.args.keeps_points c.args.flat.now.points.items
      c.args.flat.now.contour_ranges.items;
  same_shapes = refl;
}

pub push_points-requires : goal.push_points-requires
push_points-requires g c =
    let whole = g.I.IntNumber.whole in
    let plain = plain_contour whole in
    let cs = plain_contours whole c.args.contours.now in
    let places = place_list c.args.places.now in
    let place = c.place-place.result in
    let here : c.loop-i.i < length places = omega (arith, c.loop-i-test.true, c.count-i-end.ensures) in
    let x = c.index-contours-place.result in
    let long = length-map c.args.contours.now plain in
    let inside : place < length cs =
    place_inside places c.loop-i.i place c.place-place.ensures here (length cs) c.requires.inside in
    let walk = walk_there cs place (plain x) inside
    (read_mapped plain c.args.contours.now place x (plain x) (omega (arith, inside, long)) c.index-contours-place.is) in
    subst (λ ss. All (IsLong g.I.IntNumber.limit) (plain_steps whole ss))
    (sym (c.deref.ensures.value ∙ ap (λ (y : _). y.steps.items) (sym c.index-contours-place.is)))
    (subst (All (IsLong g.I.IntNumber.limit)) walk
    (walk_has (All (IsLong g.I.IntNumber.limit)) cs place c.requires.long inside))

pub loop-i-preserved : goal.loop-i-preserved
loop-i-preserved g c =
    let whole = g.I.IntNumber.whole in
    let plain = plain_contour whole in
    let keep = c.args.keeps_points in
    let cs = plain_contours whole c.args.contours.now in
    let i = c.loop-i.i in
    let places = place_list c.args.places.now in
    let place = c.place-place.result in
    let here : c.loop-i.i < length places = omega (arith, c.loop-i-test.true, c.count-i-end.ensures) in
    let x = c.index-contours-place.result in
    let long = length-map c.args.contours.now plain in
    let inside : place < length cs =
    place_inside places c.loop-i.i place c.place-place.ensures here (length cs) c.requires.inside in
    let walk = walk_there cs place (plain x) inside
    (read_mapped plain c.args.contours.now place x (plain x) (omega (arith, inside, long)) c.index-contours-place.is) in
    let before = take i places in
    let points = c.loop-i.flat.points.items in
    let new = c.push_points.new.points.items in
    let taken : IsTakenBehind whole keep (points_of (walk_at cs place)) points new =
    subst (λ w. IsTakenBehind whole keep (points_of w) points new) (sym walk)
    (subst (λ ss. IsTakenBehind whole keep (points_of (plain_steps whole ss)) points new)
    (c.deref.ensures.value ∙ ap (λ (y : _). y.steps.items) (sym c.index-contours-place.is))
    c.in_ok-push_points.ensures.taken) in
    let ranges = c.loop-i.flat.contour_ranges.items in
    let more = c.in_ok-push.ensures.items ∙ ap₂ (λ a b. ranges ++ (record { start = a; end = b }) ∷ [])
    (c.len-start.ensures ∙ c.loop-i.flat.points.ok.0) (c.len.ensures ∙ c.push_points.new.points.ok.0) in
    let old = c.args.flat.now in
    record {
      taken = subst (λ given. AreTakenBehind whole keep given old.points.items old.contour_ranges.items new
          c.push.new.self.items)
          (sym (ap (λ ps. map points_of (map (walk_at cs) ps)) (place_behind places i place c.place-place.ensures here)
          ∙ ap (map points_of) (map-append (walk_at cs) before (place ∷ []))
          ∙ map-append points_of (map (walk_at cs) before) (walk_at cs place ∷ [])))
          (one_taken whole keep old.points.items old.contour_ranges.items (map points_of (map (walk_at cs) before))
          (points_of (walk_at cs place)) points new ranges c.push.new.self.items taken more
          c.loop-i.invariant.taken);
      same_shapes = c.loop-i.invariant.same_shapes;
    }
