-- The edges of the graph are those of the builder.
use Rattle.std.proofs.Common.{◌≡◌, false, sym, subst}
use Rattle.overlay_geom.specs.Settled.{IsSettled}
use Rattle.overlay_plane.specs.Balance.{HasBalancedCounts}
use Rattle.overlay_plane.specs.Carried.{edges_in}
use Rattle.overlay_order.specs.Content.{IsAscending}
use Rattle.i_overlay.proofs.overlay.Overlay.graph_filled_by.Goals as goal

pub graph_of_balanced-requires-clause-ascending : goal.graph_of_balanced-requires-clause-ascending
graph_of_balanced-requires-clause-ascending g c =
    subst (λ es. IsAscending (edges_in es)) (sym c.content.ensures.edges)
    (subst (λ b. IsAscending b.edges) (sym c.self.view_is) c.requires.ascending)

pub graph_of_balanced-requires-clause-settled : goal.graph_of_balanced-requires-clause-settled
graph_of_balanced-requires-clause-settled g c =
    subst (λ es. IsSettled (edges_in es)) (sym c.content.ensures.edges)
    (subst (λ b. IsSettled b.edges) (sym c.self.view_is) c.requires.settled)

-- a builder that has not failed holds balanced counts
pub graph_of_balanced-requires-clause-balanced : goal.graph_of_balanced-requires-clause-balanced
graph_of_balanced-requires-clause-balanced g c =
    subst (λ es. HasBalancedCounts (edges_in es)) (sym c.content.ensures.edges)
    (c.self.invariant (subst (λ b. b.failed ≡ false) (sym c.self.view_is) c.requires.usable))
