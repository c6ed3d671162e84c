-- The contours at the places so far are added.
use Rattle.std.proofs.Common.{◌≡◌, ◌++◌, map, take}
use Rattle.overlay_plane.specs.PlacedContours.{walk_at}
use Rattle.overlay_walk.specs.GroupedContours.{plain_contours, contours_of_group}
use Rattle.overlay_extract.specs.Places.{place_list}
use Rattle.overlay_extract.proofs.in_shapes.push_shape.Given as goal

abbrev pub invariant-loop-i : goal.invariant-loop-i
invariant-loop-i g l =
    let whole = g.I.IntNumber.whole in
    plain_contours whole l.ordered.items ≡ plain_contours whole l.initial.ordered.items
    ++ contours_of_group l.number (map (walk_at (plain_contours whole l.contours)) (take l.i (place_list l.places)))
