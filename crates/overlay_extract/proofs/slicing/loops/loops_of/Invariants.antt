-- The loops of the tours so far are found.
use Rattle.std.proofs.Common.{take, drop}
use Rattle.overlay_extract.specs.Tours.{AreCutIntoLoops}
use Rattle.overlay_extract.proofs.TourParts.{AreFoundSoFar}
use Rattle.overlay_walk.specs.Walks.{plain_walks}
use Rattle.overlay_extract.proofs.slicing.loops.loops_of.Given as goal

abbrev pub invariant-loop-i : goal.invariant-loop-i
invariant-loop-i g l =
    let whole = g.I.IntNumber.whole in
    AreCutIntoLoops (plain_walks whole (take l.i l.tours)) (plain_walks whole l.loops.items)
    × AreFoundSoFar (plain_walks whole l.tours) (plain_walks whole (drop l.i l.tours)) (plain_walks whole l.loops.items)
