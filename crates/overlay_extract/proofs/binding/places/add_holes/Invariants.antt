-- The holes so far are placed.
use Rattle.std.proofs.Common.{take}
use Rattle.overlay_plane.specs.BoundContours.{contours_bound}
use Rattle.overlay_walk.specs.GroupedContours.{plain_contours}
use Rattle.overlay_extract.specs.Places.{place_lists, HasHolesAdded}
use Rattle.overlay_extract.proofs.binding.places.add_holes.Given as goal

abbrev pub invariant-loop-i : goal.invariant-loop-i
invariant-loop-i g l =
    let contours = plain_contours g.I.IntNumber.whole l.contours in
    HasHolesAdded l.holes contours (take l.i (contours_bound contours l.found))
    (place_lists l.initial.places.items) (place_lists l.places.items)
