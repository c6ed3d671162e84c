-- The edges that are given out are those of the graph, with its fill bits.
use Rattle.std.proofs.Common.{ap, subst, ◌∙◌}
use Rattle.std.proofs.Common.{◌≡◌, map}
use Rattle.overlay_order.specs.Vectors.{plain_vector, vector_of}
use Rattle.overlay_graph.specs.Graphs.{graph_edges, IsArrangement}
use Rattle.overlay_graph.proofs.FilledVectors.{vectors_listed}
use Rattle.overlay_graph.proofs.graph.Graph.edges.Goals as goal

pub returns-clause-filled : goal.returns-clause-filled
returns-clause-filled g c =
    ap (map (plain_vector g.I.IntNumber.whole)) c.deref.ensures.value
    ∙ subst (λ h. map (plain_vector g.I.IntNumber.whole) c.self.inside.edges.items ≡ map
    (vector_of h.fill_rule (graph_edges h)) (graph_edges h)) c.self.view_is
    (vectors_listed g.I.IntNumber.whole g.C.EdgeCount.counts g.I.IntNumber.limit c.self.inside.fill_rule
    c.self.inside.edges.items c.self.invariant)

pub returns-clause-arranged : goal.returns-clause-arranged
returns-clause-arranged g c =
    subst (λ h. IsArrangement g.I.IntNumber.limit (graph_edges h)) c.self.view_is c.self.invariant.arranged
