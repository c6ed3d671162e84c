-- A further block begins where the one before ends.
use Rattle.std.proofs.Common.{length, sym, subst}
use Rattle.std.proofs.lemmas.List.{length-map}
use Rattle.overlay_order.specs.Content.{plain_edge, plain_edges}
use Rattle.overlay_given.proofs.HeightBlocks.{AreBlocksTo, blocks_none, blocks_further, all_blocks}
use Rattle.overlay_given.proofs.heights.block_heights.Goals as goal

pub loop-at-init : goal.loop-at-init
loop-at-init g c =
    let whole = g.I.IntNumber.whole in
    let es = plain_edges whole g.C.EdgeCount.counts c.args.edges.now in
    let count = length c.args.edges.now in
    subst (AreBlocksTo whole es count 0) (sym c.new-blocks.ensures.items) (blocks_none whole es count)

pub loop-at-preserved : goal.loop-at-preserved
loop-at-preserved g c =
    let whole = g.I.IntNumber.whole in
    let es = plain_edges whole g.C.EdgeCount.counts c.args.edges.now in
    let count = length c.args.edges.now in
    subst (AreBlocksTo whole es count c.on_by-at.result) (sym c.in_ok-push.ensures.items)
    (blocks_further whole es count c.loop-at.at c.on_by-at.result c.loop-at.blocks.items c.heights_from-heights.result
    c.loop-at-test.true c.loop-at.invariant c.heights_from-heights.ensures c.on_by-at.ensures.up_to
    c.on_by-at.ensures.no_further c.on_by-at.ensures.ends)

pub returns : goal.returns
returns g c = record {
  ok = let plain = plain_edge g.I.IntNumber.whole g.C.EdgeCount.counts in
      all_blocks g.I.IntNumber.whole (plain_edges g.I.IntNumber.whole g.C.EdgeCount.counts c.args.edges.now)
      (length c.args.edges.now) c.loop-at.at c.loop-at.blocks.items (length-map c.args.edges.now plain)
      c.loop-at-test.false c.loop-at.invariant;
}
