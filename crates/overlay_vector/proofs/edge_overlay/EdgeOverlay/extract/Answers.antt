-- The edges of the graph are those of the builder, and so is the store.
use Rattle.std.proofs.Common.{sym, subst}
use Rattle.overlay_geom.specs.Settled.{IsSettled}
use Rattle.overlay_plane.specs.Carried.{edges_in}
use Rattle.overlay_order.specs.Content.{IsAscending}
use Rattle.overlay_parts.specs.Stores.{IsStoreReached}
use Rattle.overlay_parts.proofs.ReachedStores.{never_written}
use Rattle.overlay_vector.proofs.edge_overlay.EdgeOverlay.extract.Goals as goal

pub graph-requires-clause-ascending : goal.graph-requires-clause-ascending
graph-requires-clause-ascending g c =
    subst (λ es. IsAscending (edges_in es)) (sym c.content.ensures.edges)
    (subst (λ b. IsAscending (edges_in b.edges)) (sym c.self.view_is) c.requires.ascending)

pub graph-requires-clause-settled : goal.graph-requires-clause-settled
graph-requires-clause-settled g c =
    subst (λ es. IsSettled (edges_in es)) (sym c.content.ensures.edges)
    (subst (λ b. IsSettled (edges_in b.edges)) (sym c.self.view_is) c.requires.settled)

pub returns-in_err-buffer-clause-store : goal.returns-in_err-buffer-clause-store
returns-in_err-buffer-clause-store g c =
    let writes = g.D.OverlayEdgeData.writes in
    subst (λ b. IsStoreReached writes b.store c.self.inside.store) c.self.view_is
    (never_written writes c.self.inside.store)

pub returns-clause-store : goal.returns-clause-store
returns-clause-store g c =
    let left = c.vector_shapes-shapes.new.store in
    subst (λ b. IsStoreReached g.D.OverlayEdgeData.writes b.store left) c.self.view_is
    c.vector_shapes-shapes.ensures.store
