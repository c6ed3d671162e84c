-- The edges are those of the graph that is taken.
use Rattle.std.proofs.Common.{map, ap, ap₂, subst, ◌∙◌}
use Rattle.overlay_order.specs.Vectors.{vector_of}
use Rattle.polyover_calls.specs.Listed.{AreListed, flat_edges}
use Rattle.polyover_views.proofs.asked.edges_of_graph.Goals as goal

pub returns : goal.returns
returns g c =
    let whole = g.I.IntNumber.whole in
    let taken = c.in_ok-taken.ensures in
    subst (λ vectors. AreListed whole vectors
    (flat_edges c.in_ok-answer.answer.coordinates.items c.in_ok-answer.answer.fills.items))
    (ap (map _) c.deref.ensures.value ∙ c.in_ok-edges.ensures.ok
    ∙ ap₂ (λ f es. map (vector_of f es) es) taken.rule taken.edges) c.in_ok-answer.ensures.listed
