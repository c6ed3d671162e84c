-- The view gives the slices; there are none where it shows no edge.
use Rattle.std.proofs.Common.{sym, ap, subst}
use Rattle.std.proofs.lemmas.Result.{IfOk-weaker, IfErr-weaker}
use Rattle.overlay_extract.specs.Results.{asked}
use Rattle.overlay_extract.specs.Sliced.{IsSliced}
use Rattle.overlay_geom.specs.Flat.{paths_in}
use Rattle.overlay_geom.specs.Paths.{plain_shapes}
use Rattle.overlay_geom.specs.declared.overlay_rule.OverlayRule.TheVariants.{Subject}
use Rattle.overlay_graph.specs.Graphs.{graph_edges}
use Rattle.overlay_string.specs.OneShot.{MayRefusePaths, shape_and_strings}
use Rattle.overlay_string.specs.StringViews.{IsStringView}
use Rattle.polyover_slices.proofs.Along.{no_slices, slices_along}
use Rattle.polyover_slices.proofs.shapes.sliced_shapes.Goals as goal

pub returns-in-Some-clause-sliced : goal.returns-in-Some-clause-sliced
returns-in-Some-clause-sliced g c =
    let whole = g.I.IntNumber.whole in
    let width = g.I.Wide.WideIntNumber.width in
    let natural = g.I.WideUInt.UIntNumber.natural in
    let options = c.args.options in
    let content = c.in_ok-overlay.overlay.edges in
    let graph = c.in-Some.view.graph.now in
    let view : IsStringView c.args.solver c.args.fill content graph = rw c.in-Some.is at c.in_ok-view.ensures.view in
    IfOk-weaker c.extract_shapes_custom.result _ _
    (λ v are. slices_along c.args.solver (asked width natural c.args.fill Subject options)
    (shape_and_strings (paths_in whole c.args.read.now.first.points.items c.args.read.now.first.ranges.items)
    (paths_in whole c.args.read.now.second.points.items c.args.read.now.second.ranges.items)) content
    (graph_edges graph) c.in_ok-overlay.ensures.ok view.arranged view.some_edge (plain_shapes whole v.items)
    (subst (λ fill. IsSliced width (natural options.min_output_area) fill options.output_direction (graph_edges graph)
    (plain_shapes whole v.items)) view.filled are))
    c.extract_shapes_custom.ensures.sliced

pub returns-in-Some-clause-err : goal.returns-in-Some-clause-err
returns-in-Some-clause-err g c =
    let whole = g.I.IntNumber.whole in
    let paths = shape_and_strings (paths_in whole c.args.read.now.first.points.items c.args.read.now.first.ranges.items)
    (paths_in whole c.args.read.now.second.points.items c.args.read.now.second.ranges.items) in
    IfErr-weaker c.extract_shapes_custom.result _ _
    (λ e is. subst (MayRefusePaths c.args.solver paths) (sym is) tt) c.extract_shapes_custom.ensures.err

pub returns-clause-sliced : goal.returns-clause-sliced
returns-clause-sliced g c =
    let whole = g.I.IntNumber.whole in
    no_slices c.args.solver
    (asked g.I.Wide.WideIntNumber.width g.I.WideUInt.UIntNumber.natural c.args.fill Subject c.args.options)
    (shape_and_strings (paths_in whole c.args.read.now.first.points.items c.args.read.now.first.ranges.items)
    (paths_in whole c.args.read.now.second.points.items c.args.read.now.second.ranges.items))
    c.in_ok-overlay.overlay.edges c.in_ok-overlay.ensures.ok (rw c.in-None.is at c.in_ok-view.ensures.arranged)
    (plain_shapes whole c.new.result.items) (ap (plain_shapes whole) c.new.ensures.items)
