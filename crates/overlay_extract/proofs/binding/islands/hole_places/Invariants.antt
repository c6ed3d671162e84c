-- The places are those of the contours so far.
use Rattle.std.proofs.Common.{◌≡◌, take}
use Rattle.overlay_walk.specs.GroupedContours.{plain_contours}
use Rattle.overlay_plane.specs.Islands.{hole_places}
use Rattle.overlay_extract.proofs.binding.islands.hole_places.Given as goal

abbrev pub invariant-loop-i : goal.invariant-loop-i
invariant-loop-i g l = l.places.items ≡ hole_places 0 (plain_contours g.I.IntNumber.whole (take l.i l.contours))
