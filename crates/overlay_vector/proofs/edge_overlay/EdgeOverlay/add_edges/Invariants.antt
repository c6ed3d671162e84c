-- The edges that the iterator gave so far are added, and the store is reached.
use Rattle.overlay_parts.specs.Stores.{IsStoreReached}
use Rattle.overlay_vector.proofs.EdgesAdded.{HasAddedEdges}
use Rattle.overlay_vector.proofs.edge_overlay.EdgeOverlay.add_edges.Given as goal

abbrev pub invariant-loop-edge : goal.invariant-loop-edge
invariant-loop-edge g l =
    (goal.iterator-loop-edge g).can_next l.edge-iterator × (goal.iterator-loop-edge g).is_finite l.edge-iterator
    × HasAddedEdges g.I.IntNumber.whole l.shape_type g.D.OverlayEdgeData.reverses l.yielded l.initial.self l.self
    × IsStoreReached g.D.OverlayEdgeData.writes l.initial.self.store l.self.store
