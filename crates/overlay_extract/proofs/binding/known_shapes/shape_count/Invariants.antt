-- The outlines among the contours so far are counted.
use Rattle.std.proofs.Common.{◌≡◌, ◌≤◌, take}
use Rattle.overlay_walk.specs.GroupedContours.{plain_contours}
use Rattle.overlay_extract.proofs.RolesRead.{outline_count}
use Rattle.overlay_extract.proofs.binding.known_shapes.shape_count.Given as goal

abbrev pub invariant-loop-i : goal.invariant-loop-i
invariant-loop-i g l =
    (l.count ≡ outline_count (plain_contours g.I.IntNumber.whole (take l.i l.contours))) × (l.count ≤ l.i)
