-- The edges of the graph are those of the builder.
use Rattle.std.proofs.Common.{sym, subst}
use Rattle.overlay_geom.specs.Settled.{IsSettled}
use Rattle.overlay_plane.specs.Carried.{edges_in}
use Rattle.overlay_order.specs.Content.{IsAscending}
use Rattle.overlay_vector.proofs.edge_overlay.EdgeOverlay.list.Goals as goal

pub graph-requires-clause-ascending : goal.graph-requires-clause-ascending
graph-requires-clause-ascending g c =
    subst (λ es. IsAscending (edges_in es)) (sym c.content.ensures.edges)
    (subst (λ b. IsAscending (edges_in b.edges)) (sym c.self.view_is) c.requires.ascending)

pub graph-requires-clause-settled : goal.graph-requires-clause-settled
graph-requires-clause-settled g c =
    subst (λ es. IsSettled (edges_in es)) (sym c.content.ensures.edges)
    (subst (λ b. IsSettled (edges_in b.edges)) (sym c.self.view_is) c.requires.settled)
