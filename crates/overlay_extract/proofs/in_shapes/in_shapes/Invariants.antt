-- The contours of the shapes so far.
use Rattle.std.proofs.Common.{◌≡◌, take}
use Rattle.overlay_plane.specs.PlacedContours.{walks_at}
use Rattle.overlay_plane.specs.RoledContours.{group_contours_from}
use Rattle.overlay_walk.specs.GroupedContours.{plain_contours}
use Rattle.overlay_extract.specs.Places.{place_lists}
use Rattle.overlay_extract.proofs.in_shapes.in_shapes.Given as goal

abbrev pub invariant-loop-number : goal.invariant-loop-number
invariant-loop-number g l =
    let whole = g.I.IntNumber.whole in
    plain_contours whole l.ordered.items
    ≡ group_contours_from 0 (walks_at (plain_contours whole l.contours) (place_lists (take l.number l.places)))
