-- The edges so far meet each later edge in ends alone.
use Rattle.std.proofs.Common.{ℕ, ◌<◌, length}
use Rattle.overlay_order.specs.Content.{plain_edges}
use Rattle.overlay_pairs.specs.Places.{AreSettledUpTo}
use Rattle.overlay_pairs.proofs.settle.count_settled.Given as goal

abbrev pub invariant-loop-i : goal.invariant-loop-i
invariant-loop-i g l =
    let es = plain_edges g.I.IntNumber.whole g.C.EdgeCount.counts l.edges in
    (k : ℕ) → k < l.i → AreSettledUpTo es k (length es)
