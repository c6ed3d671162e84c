-- A further shape for a further list of places.
use Rattle.std.proofs.Common.{◌≡◌, ◌∷◌, ◌++◌, [], ◌+◌, ◌<◌, All, map, take, length, sym, ap, ◌∙◌, arith}
use Rattle.std.proofs.lemmas.List.{length-map, length-take-le, map-append}
use Rattle.overlay_geom.proofs.Mapped.{mapped_more, mapped_whole, All-mapped_at, All-mapped_first}
use Rattle.overlay_plane.specs.PlacedContours.{walk_at, walks_at}
use Rattle.overlay_plane.specs.RoledContours.{group_contours_from}
use Rattle.overlay_walk.specs.GroupedContours.{plain_contours, contours_of_group}
use Rattle.overlay_extract.specs.Places.{place_list, place_lists}
use Rattle.overlay_extract.proofs.GroupsInShapes.{groups_longer, shapes_placed}
use Rattle.overlay_extract.proofs.in_shapes.in_shapes.Goals as goal

pub push_shape-requires : goal.push_shape-requires
push_shape-requires g c =
    let cs = plain_contours g.I.IntNumber.whole c.args.contours.now in
    record {
      inside = All-mapped_at (All (λ k. k < length cs)) place_list c.args.places.now c.loop-number.number
          c.index-places-number.result c.loop-number-test.true c.index-places-number.is c.requires.inside;
    }

pub loop-number-preserved : goal.loop-number-preserved
loop-number-preserved g c =
    let cs = plain_contours g.I.IntNumber.whole c.args.contours.now in
    let places = c.args.places.now in
    let n = c.loop-number.number in
    let x = c.index-places-number.result in
    let inside = c.loop-number-test.true in
    let before = place_lists (take n places) in
    let gs = walks_at cs before in
    let ws = map (walk_at cs) (place_list x) in
    let begun = All-mapped_first (λ ps. 0 < length ps) place_list places n c.requires.begun in
    let here = All-mapped_at (λ ps. 0 < length ps) place_list places n x inside c.index-places-number.is
    c.requires.begun in
    let has : 0 < length ws = (let long = length-map (place_list x) (walk_at cs) in omega (arith, long, here)) in
    let counted : 0 + length gs ≡ n = (let outer = length-map before (map (walk_at cs)) in
    let inner = length-map (take n places) place_list in
    let taken = length-take-le n places (omega (arith, inside)) in omega (arith, outer, inner, taken)) in
    c.in_ok-push_shape.ensures.pushed
    ∙ ap (λ ds. ds ++ contours_of_group n ws) c.loop-number.invariant
    ∙ ap (λ k. group_contours_from 0 gs ++ contours_of_group k ws) (sym counted)
    ∙ sym (groups_longer 0 gs ws (shapes_placed cs before begun) has)
    ∙ ap (group_contours_from 0) (sym (map-append (map (walk_at cs)) before (place_list x ∷ [])))
    ∙ ap (λ ls. group_contours_from 0 (walks_at cs ls))
    (sym (mapped_more place_list places n x inside c.index-places-number.is))

pub returns : goal.returns
returns g c = record {
  ok = c.loop-number.invariant
      ∙ ap (λ ls. group_contours_from 0 (walks_at (plain_contours g.I.IntNumber.whole c.args.contours.now) ls))
      (mapped_whole place_list c.args.places.now c.loop-number.number c.loop-number-test.false);
}
