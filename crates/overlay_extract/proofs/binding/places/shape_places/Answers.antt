-- The holes of groups are placed, and then those that are found.
use Rattle.std.proofs.Common.{◌<◌, All, sym, ◌∙◌, subst}
use Rattle.std.specs.Prelude.{IfSome}
use Rattle.std.proofs.lemmas.List.{length-map}
use Rattle.overlay_plane.specs.BoundContours.{BoundContour, contours_bound}
use Rattle.overlay_walk.specs.GroupedContours.{plain_contour, plain_contours}
use Rattle.overlay_extract.specs.Places.{place_list, place_lists, number_as}
use Rattle.overlay_extract.specs.declared.binding.places.Holes.TheVariants.{OfGroups, Found}
use Rattle.overlay_extract.proofs.PlacedShapes.{are_placed, numbers_below, outlines_counted}
use Rattle.overlay_extract.proofs.binding.places.shape_places.Goals as goal

pub add_holes-requires-clause-counted : goal.add_holes-requires-clause-counted
add_holes-requires-clause-counted g c =
    c.requires.counted ∙ length-map c.args.contours.now (plain_contour g.I.IntNumber.whole)

pub add_holes-requires-clause-numbered : goal.add_holes-requires-clause-numbered
add_holes-requires-clause-numbered g c =
    let cs = plain_contours g.I.IntNumber.whole c.args.contours.now in
    let places = c.in_ok-places.places.items in
    subst (λ k. All (λ (b : BoundContour). IfSome (number_as OfGroups b.contour.role b.shape) (λ n. n < k))
    (contours_bound cs c.args.found.now))
    (sym (sym (length-map places place_list)
    ∙ outlines_counted cs (place_lists places) c.in_ok-places.ensures.begun))
    (numbers_below OfGroups cs c.args.found.now c.requires)

pub add_holes-requires-2-clause-numbered : goal.add_holes-requires-2-clause-numbered
add_holes-requires-2-clause-numbered g c =
    let cs = plain_contours g.I.IntNumber.whole c.args.contours.now in
    let places = c.add_holes.new.places.items in
    subst (λ k. All (λ (b : BoundContour). IfSome (number_as Found b.contour.role b.shape) (λ n. n < k))
    (contours_bound cs c.args.found.now))
    (sym (sym (length-map places place_list) ∙ c.in_ok-add_holes.ensures.added.counted
    ∙ outlines_counted cs (place_lists c.in_ok-places.places.items) c.in_ok-places.ensures.begun))
    (numbers_below Found cs c.args.found.now c.requires)

pub returns : goal.returns
returns g c = record {
  placed = let cs = plain_contours g.I.IntNumber.whole c.args.contours.now in
      are_placed cs c.args.found.now c.requires (place_lists c.in_ok-places.places.items)
      (place_lists c.add_holes.new.places.items) (place_lists c.add_holes-2.new.places.items)
      c.in_ok-places.ensures.begun c.in_ok-add_holes.ensures.added c.in_ok-add_holes-2.ensures.added;
}
