-- The edges so far ascend.
use Rattle.std.proofs.Common.{take}
use Rattle.overlay_order.specs.Content.{IsAscending}
use Rattle.overlay_relate.specs.Resolved.{edges_once}
use Rattle.overlay_relate.proofs.resolved.ascend.Given as goal

abbrev pub invariant-loop-i : goal.invariant-loop-i
invariant-loop-i g l = IsAscending (take l.i (edges_once g.I.IntNumber.whole l.edges))
