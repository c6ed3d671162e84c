-- The edge crosses none of those at the places so far.
use Rattle.std.proofs.Common.{take}
use Rattle.overlay_order.specs.Content.{plain_edges}
use Rattle.overlay_given.proofs.NearTests.{FailsAt, edges_cross}
use Rattle.overlay_given.proofs.uncrossed.crosses_none.Given as goal

abbrev pub invariant-loop-k : goal.invariant-loop-k
invariant-loop-k g l =
    FailsAt edges_cross (plain_edges g.I.IntNumber.whole g.C.EdgeCount.counts l.edges) l.i (take l.k l.near)
