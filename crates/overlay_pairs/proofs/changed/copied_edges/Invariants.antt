-- The edges so far are those at the places so far.
use Rattle.overlay_order.specs.Content.{plain_edges}
use Rattle.overlay_pairs.proofs.NearChanged.{StandUpTo}
use Rattle.overlay_pairs.proofs.changed.copied_edges.Given as goal

abbrev pub invariant-loop-k : goal.invariant-loop-k
invariant-loop-k g l =
    StandUpTo (plain_edges g.I.IntNumber.whole g.C.EdgeCount.counts l.edges) l.places l.k
    (plain_edges g.I.IntNumber.whole g.C.EdgeCount.counts l.found.items)
