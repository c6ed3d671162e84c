-- Edge by edge its pieces are added, which are those that the clip keeps.
use Rattle.std.proofs.Common.{◌++◌, ap, sym, ◌∙◌, arith}
use Rattle.std.proofs.lemmas.List.{take_all}
use Rattle.std.specs.List.{flat_map}
use Rattle.overlay_geom.proofs.JoinedLists.{joined_more}
use Rattle.overlay_plane.specs.Carried.{edges_in}
use Rattle.overlay_graph.specs.Graphs.{graph_edges}
use Rattle.overlay_string.specs.Pieces.{plain_pieces, pieces_by_bits}
use Rattle.overlay_string.proofs.KeptPieces.{pieces_kept}
use Rattle.overlay_string.proofs.kept_pieces.kept_pieces.Goals as goal

pub loop-edge-init : goal.loop-edge-init
loop-edge-init g c = ap (plain_pieces g.I.IntNumber.whole) c.new-pieces.ensures.items

pub loop-edge-preserved : goal.loop-edge-preserved
loop-edge-preserved g c =
    let given = pieces_by_bits g.I.IntNumber.whole c.args.rule in
    let edge = c.edge-item.result in
    c.in_ok-push_kept.ensures.ok
    ∙ ap (λ l. l ++ given edge) c.loop-edge.invariant
    ∙ sym (joined_more given c.edges-edges.result.now c.loop-edge.edge-index edge c.loop-edge-test.true c.edge-item.is)

pub returns : goal.returns
returns g c = record {
  ok = let whole = g.I.IntNumber.whole in
      let edges = c.edges-edges.result.now in
      let past = c.loop-edge-test.false in
      c.loop-edge.invariant
      ∙ ap (flat_map (pieces_by_bits whole c.args.rule)) (take_all c.loop-edge.edge-index edges (omega (arith, past)))
      ∙ pieces_kept whole c.args.rule c.args.graph.now.fill_rule (graph_edges c.args.graph.now) edges
      (ap edges_in c.edges-edges.ensures.carried) c.edges-edges.ensures.filled;
}
