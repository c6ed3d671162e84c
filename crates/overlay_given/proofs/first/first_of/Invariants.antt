-- The shape passes none of the edges so far.
use Rattle.std.proofs.Common.{◌≡◌, ℕ, ◌<◌, pos}
use Rattle.overlay_geom.specs.Edges.{CountedEdge}
use Rattle.overlay_order.specs.Content.{plain_edges}
use Rattle.overlay_pairs.specs.Places.{IsAt}
use Rattle.overlay_given.specs.First.{count_of}
use Rattle.overlay_given.proofs.first.first_of.Given as goal

abbrev pub invariant-loop-i : goal.invariant-loop-i
invariant-loop-i g l = (k : ℕ) (e : CountedEdge) → k < l.i →
    IsAt (plain_edges g.I.IntNumber.whole g.C.EdgeCount.counts l.edges) k e → count_of l.shape e ≡ pos 0
