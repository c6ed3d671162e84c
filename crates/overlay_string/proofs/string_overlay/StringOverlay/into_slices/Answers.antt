-- The graph of the arranged edges gives the slices.
use Rattle.std.proofs.Common.{inr, sym, subst}
use Rattle.std.proofs.lemmas.Result.{IfOk-weaker, IfErr-weaker}
use Rattle.overlay_geom.specs.Paths.{plain_shapes}
use Rattle.overlay_graph.specs.Graphs.{graph_edges}
use Rattle.overlay_graph.specs.Arranged.{MayRefuseSplitting}
use Rattle.overlay_string.specs.StringSlices.{IsSlicedWhole}
use Rattle.overlay_string.proofs.string_overlay.StringOverlay.into_slices.Goals as goal

pub returns-clause-sliced : goal.returns-clause-sliced
returns-clause-sliced g c =
    let width = g.I.Wide.WideIntNumber.width in
    let made = c.in_ok-arranged.ensures in
    IfOk-weaker c.extract_shapes.result _ _
    (λ v are.
    let shapes = plain_shapes g.I.IntNumber.whole v.items in
    record {
      arrangement = c.arranged_graph.new.self.edges;
      arranged = made.query.arranged;
      sliced = subst (λ es. IsSlicedWhole width c.args.fill_rule es shapes) made.edges
          (subst (λ fill. IsSlicedWhole width fill (graph_edges c.in_ok-arranged.arranged) shapes) made.rule are);
    })
    c.extract_shapes.ensures.sliced

pub returns-clause-err : goal.returns-clause-err
returns-clause-err g c =
    IfErr-weaker c.extract_shapes.result _ _
    (λ e is. inr (subst (MayRefuseSplitting c.args.solver c.args.self.edges) (sym is) tt)) c.extract_shapes.ensures.err
