-- What is extracted is a result, of which each shape by itself winds so; and the law of results.
use Rattle.std.specs.Prelude.{map}
use Rattle.std.proofs.lemmas.Result.{IfOk-weaker}
use Rattle.overlay_geom.specs.Edges.{ends_of}
use Rattle.overlay_geom.specs.Paths.{plain_shapes}
use Rattle.overlay_geom.specs.Plane.{PlanePoint, IsOff}
use Rattle.overlay_geom.specs.declared.overlay_rule.OverlayRule.TheVariants.{Subject}
use Rattle.overlay_plane.specs.ShapesAlone.{EachWindsOnceOrNot}
use Rattle.overlay_graph.specs.Graphs.{graph_edges}
use Rattle.overlay_walk.specs.Steps.{filled_hand}
use Rattle.overlay_extract.specs.Laws.{NoTwoWindRound}
use Rattle.overlay_extract.specs.Results.{asked, IsResult}
use Rattle.callers.proofs.parcels.parcels.Goals as goal

pub returns-clause-alone : goal.returns-clause-alone
returns-clause-alone g c =
    let q = asked g.I.Wide.WideIntNumber.width g.I.WideUInt.UIntNumber.natural c.args.graph.now.fill_rule Subject
    c.args.options in
    IfOk-weaker c.extract_shapes.result
    (λ v. IsResult q (graph_edges c.args.graph.now) (plain_shapes g.I.IntNumber.whole v.items))
    (λ v. EachWindsOnceOrNot (filled_hand c.args.options.output_direction) (plain_shapes g.I.IntNumber.whole v.items))
    (λ v is. is.each_alone c.requires.all) c.extract_shapes.ensures.result

pub returns-clause-apart : goal.returns-clause-apart
returns-clause-apart g c =
    let q = asked g.I.Wide.WideIntNumber.width g.I.WideUInt.UIntNumber.natural c.args.graph.now.fill_rule Subject
    c.args.options in
    let es = graph_edges c.args.graph.now in
    IfOk-weaker c.extract_shapes.result (λ v. IsResult q es (plain_shapes g.I.IntNumber.whole v.items))
    (λ v. (p : PlanePoint) → IsOff (map ends_of es) p → NoTwoWindRound (plain_shapes g.I.IntNumber.whole v.items) p)
    (λ v is. c.no_two_shapes_wind_round_one_point.ensures.results q es (plain_shapes g.I.IntNumber.whole v.items)
    c.requires.all is) c.extract_shapes.ensures.result
