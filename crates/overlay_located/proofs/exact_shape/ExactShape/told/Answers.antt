-- The edges are those of the shape.
use Rattle.std.proofs.Common.{All, ap, subst, ◌∙◌}
use Rattle.std.proofs.lemmas.List.{map-id}
use Rattle.std.proofs.lemmas.Result.{IfOk-weaker}
use Rattle.overlay_plane.specs.Carried.{edges_in}
use Rattle.overlay_order.specs.Content.{plain_edges}
use Rattle.overlay_order.specs.Counts.{boolean_counts}
use Rattle.overlay_located.specs.Queries.{plain_query, IsTold}
use Rattle.overlay_located.proofs.exact_shape.ExactShape.told.Goals as goal

pub returns : goal.returns
returns g c =
    let whole = g.I.IntNumber.whole in
    let plain = plain_edges whole boolean_counts in
    IfOk-weaker c.told_of.result _ _ (λ v are.
    subst (λ s. All (λ q. IsTold s.edges (plain_query whole boolean_counts q)) v.items) c.self.view_is
    (subst (λ es. All (λ q. IsTold es (plain_query whole boolean_counts q)) v.items)
    (c.edges.ensures.plain ∙ ap edges_in c.content.ensures.edges)
    (subst (λ fs. All (λ q. IsTold (plain fs) (plain_query whole boolean_counts q)) v.items)
    (map-id c.edges.result.now) are)))
    c.told_of.ensures
