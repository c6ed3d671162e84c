-- The edges so far cross no later edge.
use Rattle.std.proofs.Common.{ℕ, ◌<◌}
use Rattle.overlay_order.specs.Content.{plain_edges}
use Rattle.overlay_given.specs.Uncrossed.{CrossesNoneBehind}
use Rattle.overlay_given.proofs.uncrossed.none_cross.Given as goal

abbrev pub invariant-loop-i : goal.invariant-loop-i
invariant-loop-i g l = (k : ℕ) → k < l.i →
    CrossesNoneBehind (plain_edges g.I.IntNumber.whole g.C.EdgeCount.counts l.edges) k
