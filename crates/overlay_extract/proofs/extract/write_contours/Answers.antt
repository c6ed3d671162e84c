-- The contours of the kept walks are the result.
use Rattle.std.proofs.Common.{map, subst}
use Rattle.std.specs.List.{AllZip}
use Rattle.std.proofs.lemmas.Result.{on_ok_weaker}
use Rattle.overlay_geom.specs.Flat.{paths_in}
use Rattle.overlay_geom.specs.Plane.{points_of}
use Rattle.overlay_geom.specs.Thinned.{IsKeptOrThinned}
use Rattle.overlay_graph.specs.Graphs.{graph_edges}
use Rattle.overlay_walk.specs.Walks.{plain_walks}
use Rattle.overlay_extract.specs.Results.{asked}
use Rattle.overlay_extract.proofs.Results.{contours_shown}
use Rattle.overlay_extract.proofs.extract.write_contours.Goals as goal

pub returns-clause-result : goal.returns-clause-result
returns-clause-result g c =
    let whole = g.I.IntNumber.whole in
    let paths = paths_in whole c.add_contours.new.output.points.items c.add_contours.new.output.ranges.items in
    on_ok_weaker c.add_contours.result
    (λ shown. contours_shown (asked g.I.Wide.WideIntNumber.width g.I.WideUInt.UIntNumber.natural
    c.args.graph.now.fill_rule c.args.overlay_rule c.args.options)
    (graph_edges c.args.graph.now) (plain_walks whole c.in_ok-walks.walks.items) c.in_ok-walks.ensures.kept paths
    (subst (λ ws. AllZip (IsKeptOrThinned c.args.options.preserve_output_collinear)
    (map points_of (plain_walks whole ws)) paths) c.deref.ensures.value shown))
    c.add_contours.ensures.shown
