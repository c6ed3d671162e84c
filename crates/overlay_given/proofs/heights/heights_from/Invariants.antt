-- The edges so far lie in the range.
use Rattle.std.proofs.Common.{◌≤◌}
use Rattle.overlay_order.specs.Content.{plain_edges}
use Rattle.overlay_given.proofs.HeightBlocks.{LieFrom}
use Rattle.overlay_given.proofs.heights.heights_from.Given as goal

abbrev pub invariant-loop-k : goal.invariant-loop-k
invariant-loop-k g l =
    (l.at ≤ l.k)
    × LieFrom (plain_edges g.I.IntNumber.whole g.C.EdgeCount.counts l.edges) l.at l.k
    (g.I.IntNumber.whole l.heights.low) (g.I.IntNumber.whole l.heights.high)
