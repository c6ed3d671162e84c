-- The sweep holds the live entries of those so far.
use Rattle.std.proofs.Common.{take}
use Rattle.overlay_extract.specs.Parents.{IsSwept}
use Rattle.overlay_walk.specs.WalkEdges.{numbered_entries}
use Rattle.overlay_extract.proofs.binding.sweep.insert_up_to.Given as goal

abbrev pub invariant-loop-i : goal.invariant-loop-i
invariant-loop-i g l =
    IsSwept g.I.IntNumber.limit (g.I.IntNumber.whole l.x) (take l.i (numbered_entries g.I.IntNumber.whole l.edges))
    (g.S.Scan.content l.scan)
