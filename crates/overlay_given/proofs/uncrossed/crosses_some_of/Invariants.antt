-- The edge crosses none of those so far.
use Rattle.std.proofs.Common.{◌≤◌}
use Rattle.overlay_order.specs.Content.{plain_edge, plain_edges}
use Rattle.overlay_given.specs.Uncrossed.{CrossesNoneOf}
use Rattle.overlay_given.proofs.uncrossed.crosses_some_of.Given as goal

abbrev pub invariant-loop-k : goal.invariant-loop-k
invariant-loop-k g l =
    (l.from ≤ l.k)
    × CrossesNoneOf (plain_edges g.I.IntNumber.whole g.C.EdgeCount.counts l.edges)
    (plain_edge g.I.IntNumber.whole g.C.EdgeCount.counts l.e) l.from l.k
