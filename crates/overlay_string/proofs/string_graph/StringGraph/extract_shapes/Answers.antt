-- The options are the default ones.
use Rattle.std.proofs.Common.{subst}
use Rattle.std.proofs.lemmas.Result.{IfOk-weaker}
use Rattle.overlay_geom.specs.Paths.{plain_shapes}
use Rattle.overlay_geom.specs.declared.options.ContourDirection.TheVariants.{CounterClockwise}
use Rattle.overlay_graph.specs.Graphs.{graph_edges}
use Rattle.overlay_extract.specs.Sliced.{IsSliced}
use Rattle.overlay_string.proofs.string_graph.StringGraph.extract_shapes.Goals as goal

pub returns-clause-sliced : goal.returns-clause-sliced
returns-clause-sliced g c =
    let width = g.I.Wide.WideIntNumber.width in
    let natural = g.I.WideUInt.UIntNumber.natural in
    let seen = c.args.self.now.graph.now in
    let options = c.before.default.ensures in
    IfOk-weaker c.extract_shapes_custom.result _ _
    (λ v are. subst (λ min. IsSliced width min seen.fill_rule CounterClockwise (graph_edges seen)
    (plain_shapes g.I.IntNumber.whole v.items)) options.area
    (subst (λ direction. IsSliced width (natural c.before.default.result.min_output_area) seen.fill_rule direction
    (graph_edges seen) (plain_shapes g.I.IntNumber.whole v.items)) options.direction are))
    c.extract_shapes_custom.ensures.sliced
