-- The edge crosses none of the other shape at the places so far.
use Rattle.std.proofs.Common.{take}
use Rattle.overlay_order.specs.Content.{plain_edges}
use Rattle.overlay_given.specs.Crossing.{cross_of_two}
use Rattle.overlay_given.proofs.NearTests.{FailsAt}
use Rattle.overlay_given.proofs.crossing.crosses_some.Given as goal

abbrev pub invariant-loop-k : goal.invariant-loop-k
invariant-loop-k g l =
    FailsAt cross_of_two (plain_edges g.I.IntNumber.whole g.C.EdgeCount.counts l.edges) l.i (take l.k l.near)
