-- The edges are arranged, and their graph is made.
use Rattle.std.proofs.Common.{sym, subst}
use Rattle.overlay_geom.specs.Settled.{IsSettled}
use Rattle.overlay_plane.specs.Carried.{edges_in}
use Rattle.overlay_string.proofs.string_overlay.StringOverlay.arranged_graph.Goals as goal

pub graph_of_balanced-graph-requires-clause-settled : goal.graph_of_balanced-graph-requires-clause-settled
graph_of_balanced-graph-requires-clause-settled g c =
    subst (λ es. IsSettled (edges_in es)) (sym c.content.ensures.edges)
    c.in_ok-arrange.ensures.query.arranged.reached.settled
