-- Where no edge passes the telling test, sides alone answer these three.
use Rattle.overlay_graph.specs.Graphs.{graph_edges}
use Rattle.overlay_relate.specs.declared.edge_test.EdgeTest.TheVariants.{SubjectSide, ClipSide}
use Rattle.overlay_relate.proofs.BitsTell.{told_by_vectors}
use Rattle.overlay_relate.proofs.ToldByEdges.{fillable_arrangement}
use Rattle.overlay_relate.proofs.ToldEarly.{no_common_side, within_by_side, covers_by_side}
use Rattle.overlay_relate.proofs.edge_answers.told_without_ends.Goals as goal

pub returns-in-InteriorsIntersect : goal.returns-in-InteriorsIntersect
returns-in-InteriorsIntersect g c =
    let graph = c.args.graph.now in
    let es = graph_edges graph in
    let is = c.in-InteriorsIntersect.is in
    rw is (no_common_side graph.fill_rule es
    (fillable_arrangement g.I.IntNumber.limit es c.edges-edges.ensures.arranged c.requires.balanced graph.fill_rule)
    (rw is at c.requires.untold))

pub returns-in-Within : goal.returns-in-Within
returns-in-Within g c =
    let graph = c.args.graph.now in
    let es = graph_edges graph in
    let is = c.in-Within.is in
    rw is (within_by_side graph.fill_rule es
    (fillable_arrangement g.I.IntNumber.limit es c.edges-edges.ensures.arranged c.requires.balanced graph.fill_rule)
    (rw is at c.requires.untold) c.some_passes.result
    (told_by_vectors g.I.IntNumber.whole SubjectSide graph.fill_rule es c.edges-edges.result.now
    c.edges-edges.ensures.filled c.some_passes.result c.some_passes.ensures))

pub returns-in-Cover : goal.returns-in-Cover
returns-in-Cover g c =
    let graph = c.args.graph.now in
    let es = graph_edges graph in
    let is = c.in-Cover.is in
    rw is (covers_by_side graph.fill_rule es
    (fillable_arrangement g.I.IntNumber.limit es c.edges-edges.ensures.arranged c.requires.balanced graph.fill_rule)
    (rw is at c.requires.untold) c.some_passes-in-Cover.result
    (told_by_vectors g.I.IntNumber.whole ClipSide graph.fill_rule es c.edges-edges.result.now
    c.edges-edges.ensures.filled c.some_passes-in-Cover.result c.some_passes-in-Cover.ensures))
