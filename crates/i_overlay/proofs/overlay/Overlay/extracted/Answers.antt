-- The edges of the graph are those of the builder, and so are the options.
use Rattle.std.proofs.Common.{ap, subst}
use Rattle.std.specs.Prelude.{IfOk}
use Rattle.overlay_extract.specs.Results.{asked, IsResult}
use Rattle.overlay_geom.specs.Flat.{shapes_in}
use Rattle.overlay_graph.specs.Graphs.{graph_edges}
use Rattle.i_overlay.proofs.overlay.Overlay.extracted.Goals as goal

pub returns-clause-result : goal.returns-clause-result
returns-clause-result g c =
    let r = c.extract_flat_shapes.result in
    let whole = g.I.IntNumber.whole in
    let width = g.I.Wide.WideIntNumber.width in
    let natural = g.I.WideUInt.UIntNumber.natural in
    subst (λ fill. IfOk r (λ b. IsResult (asked width natural fill c.args.overlay_rule c.args.self.options)
    c.args.self.edges (shapes_in whole b.points.items b.contour_ranges.items b.shape_ranges.items)))
    c.in_ok-graph.ensures.rule
    (subst (λ es. IfOk r (λ b. IsResult (asked width natural c.in_ok-graph.graph.fill_rule c.args.overlay_rule
    c.args.self.options) es (shapes_in whole b.points.items b.contour_ranges.items b.shape_ranges.items)))
    c.in_ok-graph.ensures.edges
    (subst (λ o. IfOk r (λ b. IsResult (asked width natural c.in_ok-graph.graph.fill_rule c.args.overlay_rule o)
    (graph_edges c.in_ok-graph.graph)
    (shapes_in whole b.points.items b.contour_ranges.items b.shape_ranges.items)))
    (ap (λ b. b.options) c.self.view_is)
    c.extract_flat_shapes.ensures.result))
