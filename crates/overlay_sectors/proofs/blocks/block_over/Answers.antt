-- The block is widened round one edge more.
use Rattle.std.proofs.Common.{◌≡◌, ⊎_elim, ◌<◌, get_or, sym, ap, ◌∙◌, subst, arith}
use Rattle.std.proofs.Math.Nat.{eq-or-lt_of_le}
use Rattle.overlay_geom.specs.Edges.{CountedEdge, ends_of}
use Rattle.overlay_geom.proofs.Mapped.{read_mapped}
use Rattle.overlay_order.specs.Content.{plain_edge, plain_edges}
use Rattle.overlay_relate.specs.Blocks.{plain_block, LiesBetween}
use Rattle.overlay_sectors.proofs.AsideEdges.{still_between}
use Rattle.overlay_sectors.proofs.blocks.block_over.Goals as goal

pub loop-n-preserved : goal.loop-n-preserved
loop-n-preserved g c =
    let whole = g.I.IntNumber.whole in
    let plain = plain_edge whole g.C.EdgeCount.counts in
    let edges = c.args.edges.now in
    let es = plain_edges whole g.C.EdgeCount.counts edges in
    let e = c.index-edges-n.result in
    let block = plain_block whole c.loop-n.block in
    let wide = plain_block whole c.widened-block.result in
    let lt = c.loop-n-test.true in
    let within = c.requires.within in (
      c.widened-block.ensures.start ∙ c.loop-n.invariant.0,
      c.widened-block.ensures.end ∙ c.loop-n.invariant.1,
      λ m d from to. ⊎_elim
          (λ (same : m ≡ c.loop-n.n). subst (λ (f : CountedEdge). LiesBetween wide (ends_of f))
          (sym (ap (λ k. get_or es k d) same
          ∙ read_mapped plain edges c.loop-n.n e d (omega (arith, lt, within)) c.index-edges-n.is))
          c.widened-block.ensures.more)
          (λ (before : m < c.loop-n.n). still_between block wide (ends_of (get_or es m d)) c.widened-block.ensures.left
          c.widened-block.ensures.right c.widened-block.ensures.bottom (c.loop-n.invariant.2 m d from before))
          (eq-or-lt_of_le {n = m} {m = c.loop-n.n} (omega (arith, to))),
    )
