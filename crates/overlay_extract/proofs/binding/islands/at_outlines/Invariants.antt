-- The entries at the outlines so far.
use Rattle.std.proofs.Common.{◌≡◌, take}
use Rattle.overlay_walk.specs.GroupedContours.{plain_contours}
use Rattle.overlay_extract.specs.HolePlaces.{at_outlines}
use Rattle.overlay_extract.proofs.binding.islands.at_outlines.Given as goal

abbrev pub invariant-loop-i : goal.invariant-loop-i
invariant-loop-i g l =
    l.at.items ≡ at_outlines (plain_contours g.I.IntNumber.whole (take l.i l.contours)) (take l.i l.found)
