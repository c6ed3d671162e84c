-- The edge meets those at the places so far in ends alone.
use Rattle.std.proofs.Common.{take}
use Rattle.overlay_order.specs.Content.{plain_edges}
use Rattle.overlay_pairs.proofs.RunEnds.{AreSettledWith}
use Rattle.overlay_pairs.proofs.settle.is_settled_from.Given as goal

abbrev pub invariant-loop-k : goal.invariant-loop-k
invariant-loop-k g l =
    AreSettledWith (plain_edges g.I.IntNumber.whole g.C.EdgeCount.counts l.edges) l.i (take l.k l.near)
