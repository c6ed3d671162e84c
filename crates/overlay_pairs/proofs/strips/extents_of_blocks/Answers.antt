-- A block begins, or the last grows.
use Rattle.std.proofs.Common.{◌≡◌, ◌+◌, List, ◌∷◌, [], ◌/◌, ◌%◌, ap, sym, subst, ◌∙◌, arith}
use Rattle.std.proofs.lemmas.List.{length-map, map-append, map-set}
use Rattle.overlay_geom.proofs.Mapped.{read_mapped}
use Rattle.overlay_pairs.specs.Extents.{Extent, plain_extent, plain_extents}
use Rattle.overlay_pairs.proofs.Entries.{placed_in_mapped}
use Rattle.overlay_pairs.proofs.ExtentBlocks.{all_blocks, AreBlocksUpTo, block_begun, block_grown, last_block}
use Rattle.overlay_pairs.proofs.strips.extents_of_blocks.Goals as goal
use Rattle.overlay_pairs.proofs.strips.extents_of_blocks.Goals.{then-i-eq0+in_ok-push, else-i-eq0}

pub loop-i-preserved : goal.loop-i-preserved
loop-i-preserved g c =
    let plain = plain_extent g.I.IntNumber.whole in
    let ss = plain_extents g.I.IntNumber.whole c.args.extents.now in
    let old = c.loop-i.blocks.items in
    let i = c.loop-i.i in
    let s = plain c.index-extents-i.result in
    let at_s = placed_in_mapped plain c.args.extents.now i c.index-extents-i.result c.loop-i-test.true
    c.index-extents-i.is in
    elim c.if-i-eq0.branch [
      | then-i-eq0+in_ok-push w ↦ subst (λ (bs : List Extent). AreBlocksUpTo ss bs (i + 1))
          (sym (ap (λ v. plain_extents g.I.IntNumber.whole v.items) w.blocks-is
          ∙ ap (plain_extents g.I.IntNumber.whole) w.in_ok-push.ensures.items
          ∙ map-append plain old (c.index-extents-i.result ∷ [])))
          (block_begun ss (plain_extents g.I.IntNumber.whole old) i c.loop-i.invariant s at_s (omega arith))
      | else-i-eq0 w ↦
          let goes_on : ¬ (i % 8 ≡ 0) = λ zero. absurd (omega (arith, zero)) in
          let inside = last_block ss (plain_extents g.I.IntNumber.whole old) i c.loop-i.invariant s at_s goes_on in
          let l = length-map old plain in
          block_grown ss (plain_extents g.I.IntNumber.whole old) i c.loop-i.invariant s at_s (plain w.index.result.now)
          (plain w.joined.result)
          (plain_extents g.I.IntNumber.whole c.if-i-eq0.blocks.items) goes_on
          (ap (λ v. plain_extents g.I.IntNumber.whole v.items) w.blocks-is ∙ map-set plain old (i / 8) w.joined.result)
          (sym (read_mapped plain old (i / 8) w.index.result.now (plain w.index.result.now) (omega (arith, inside, l))
          w.index.ensures))
          w.joined.ensures.first w.joined.ensures.second
    ]

pub returns : goal.returns
returns g c = record {
  ok = let plain = plain_extents g.I.IntNumber.whole in
      let l = length-map c.args.extents.now (plain_extent g.I.IntNumber.whole) in
      all_blocks (plain c.args.extents.now) (plain c.loop-i.blocks.items) c.loop-i.i
      (omega (arith, l, c.loop-i-test.false)) c.loop-i.invariant;
}
