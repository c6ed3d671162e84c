-- The heights of one more edge stand behind the others.
use Rattle.std.proofs.Common.{◌≡◌, ◌+◌, length, sym, subst, ◌∙◌, arith}
use Rattle.std.proofs.lemmas.List.{length-map}
use Rattle.overlay_order.specs.Content.{plain_edge, plain_edges}
use Rattle.overlay_pairs.proofs.Entries.{placed_in_mapped}
use Rattle.overlay_given.proofs.HeightBlocks.{AreHeightsTo, heights_none, heights_more, all_heights}
use Rattle.overlay_given.proofs.heights.edge_heights.Goals as goal

pub loop-k-init : goal.loop-k-init
loop-k-init g c =
    let whole = g.I.IntNumber.whole in
    let es = plain_edges whole g.C.EdgeCount.counts c.args.edges.now in
    subst (AreHeightsTo whole es 0) (sym c.in_ok-heights.ensures.items) (heights_none whole es)

pub loop-k-preserved : goal.loop-k-preserved
loop-k-preserved g c =
    let whole = g.I.IntNumber.whole in
    let plain = plain_edge whole g.C.EdgeCount.counts in
    let es = plain_edges whole g.C.EdgeCount.counts c.args.edges.now in
    let k = c.loop-k.k in
    let e = c.index-edges-k.result in
    subst (AreHeightsTo whole es (k + 1)) (sym c.in_ok-push.ensures.items)
    (heights_more whole es k c.loop-k.heights.items c.heights_of-of_k.result (plain e)
    (placed_in_mapped plain c.args.edges.now k e c.loop-k-test.true c.index-edges-k.is) c.heights_of-of_k.ensures
    c.loop-k.invariant)

pub returns : goal.returns
returns g c = record {
  ok = let plain = plain_edge g.I.IntNumber.whole g.C.EdgeCount.counts in
      let up = c.loop-k.auto.k-end in
      let l = length-map c.args.edges.now plain in
      let all : c.loop-k.k ≡ length c.args.edges.now = omega (arith, up, c.loop-k-test.false) in
      all_heights g.I.IntNumber.whole (plain_edges g.I.IntNumber.whole g.C.EdgeCount.counts c.args.edges.now) c.loop-k.k
      c.loop-k.heights.items (all ∙ sym l) c.loop-k.invariant;
}
