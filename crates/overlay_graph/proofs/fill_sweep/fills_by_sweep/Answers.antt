-- No edge passes the test, so the sides of all edges are written.
use Rattle.std.proofs.Common.{◌≡◌, ◌≤◌, map, length, ap, ◌∙◌, arith}
use Rattle.std.proofs.lemmas.List.{length-map, take-append-le, take_all}
use Rattle.overlay_order.specs.Content.{plain_edge, plain_edges}
use Rattle.overlay_geom.specs.Rules.{fill_bits}
use Rattle.overlay_graph.proofs.FillsTold.{no_test_passed}
use Rattle.overlay_graph.proofs.fill_sweep.fills_by_sweep.Goals as goal

pub returns : goal.returns
returns g c = record {
  ok = let es = plain_edges g.I.IntNumber.whole g.C.EdgeCount.counts c.args.edges.now in
      let fills = c.fill_unless.new.fills in
      let all : fills ≡ map (fill_bits c.args.rule es) es =
      c.in_ok-fill_unless.ensures.filled (c.in_ok-fill_unless.ensures.told ∙ no_test_passed c.args.rule es) in
      let of_bits = ap length all ∙ length-map es (fill_bits c.args.rule es) in
      let of_edges = length-map c.args.edges.now (plain_edge g.I.IntNumber.whole g.C.EdgeCount.counts) in
      let room = c.in_ok-resize.ensures.len in
      take-append-le c.resize.new.self.len fills _ (omega (arith, of_bits, of_edges, room))
      ∙ take_all c.resize.new.self.len fills (omega (arith, of_bits, of_edges, room))
      ∙ all;
}
