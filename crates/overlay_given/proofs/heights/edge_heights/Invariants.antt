-- The heights so far are those of the edges so far.
use Rattle.overlay_order.specs.Content.{plain_edges}
use Rattle.overlay_given.proofs.HeightBlocks.{AreHeightsTo}
use Rattle.overlay_given.proofs.heights.edge_heights.Given as goal

abbrev pub invariant-loop-k : goal.invariant-loop-k
invariant-loop-k g l =
    AreHeightsTo g.I.IntNumber.whole (plain_edges g.I.IntNumber.whole g.C.EdgeCount.counts l.edges) l.k
    l.heights.items
