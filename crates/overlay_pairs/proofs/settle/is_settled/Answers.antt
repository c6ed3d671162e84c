-- The edges are settled where all of them are counted.
use Rattle.std.proofs.Common.{length}
use Rattle.std.proofs.lemmas.Bool.Decides.{Decides-eqb}
use Rattle.std.proofs.lemmas.List.{length-map}
use Rattle.overlay_order.specs.Content.{plain_edge, plain_edges}
use Rattle.overlay_pairs.proofs.SettledLists.{settled_where_counted}
use Rattle.overlay_pairs.proofs.settle.is_settled.Goals as goal

pub returns : goal.returns
returns g c = record {
  ok = let count = c.in_ok-count.count in
      let all = length c.args.edges.now in
      let decides = Decides-eqb count all in
      let law = settled_where_counted (plain_edges g.I.IntNumber.whole g.C.EdgeCount.counts c.args.edges.now) count all
      (length-map c.args.edges.now (plain_edge g.I.IntNumber.whole g.C.EdgeCount.counts)) c.requires.ascending
      c.in_ok-count.ensures.ok c.in_ok-count.ensures.most in (
        λ is. law.0 (decides.0 is),
        λ settled. decides.1 (law.1 settled),
      );
}
