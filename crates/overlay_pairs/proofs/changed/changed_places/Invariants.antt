-- The places so far are those of the edges so far but of those that were closed.
use Rattle.overlay_order.specs.Content.{plain_edges}
use Rattle.overlay_pairs.specs.Changed.{AreChangedBefore}
use Rattle.overlay_pairs.proofs.changed.changed_places.Given as goal

abbrev pub invariant-loop-i : goal.invariant-loop-i
invariant-loop-i g l =
    AreChangedBefore (plain_edges g.I.IntNumber.whole g.C.EdgeCount.counts l.edges)
    (plain_edges g.I.IntNumber.whole g.C.EdgeCount.counts l.before) l.is_open l.i l.places.items
