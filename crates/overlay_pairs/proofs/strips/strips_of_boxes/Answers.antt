-- The lists of blocks belong together.
use Rattle.std.proofs.Common.{subst}
use Rattle.overlay_pairs.specs.Extents.{plain_extents, AreBlocks}
use Rattle.overlay_pairs.proofs.ExtentBlocks.{blocks_of_blocks}
use Rattle.overlay_pairs.proofs.strips.strips_of_boxes.Goals as goal

pub returns : goal.returns
returns g c = record {
  ok = let whole = g.I.IntNumber.whole in
      let plain = plain_extents whole in
      let sorted = c.in_ok-extents.extents.items in
      let of_8 = plain c.in_ok-of_8.of_8.items in
      let of_64 = plain c.in_ok-of_64.of_64.items in
      let of_512 = plain c.in_ok-of_512.of_512.items in
      let of_4096 = plain c.in_ok-of_4096.of_4096.items in
      let of_32768 = plain c.in_ok-of_32768.of_32768.items in
      let by_8 = subst (λ ss. AreBlocks 8 (plain ss) of_8) c.deref.ensures.value c.in_ok-of_8.ensures.ok in
      let by_64 = blocks_of_blocks 8 8 (plain sorted) of_8 of_64 by_8
      (subst (λ ss. AreBlocks 8 (plain ss) of_64) c.deref-2.ensures.value c.in_ok-of_64.ensures.ok) in
      let by_512 = blocks_of_blocks 64 8 (plain sorted) of_64 of_512 by_64
      (subst (λ ss. AreBlocks 8 (plain ss) of_512) c.deref-3.ensures.value c.in_ok-of_512.ensures.ok) in
      let by_4096 = blocks_of_blocks 512 8 (plain sorted) of_512 of_4096 by_512
      (subst (λ ss. AreBlocks 8 (plain ss) of_4096) c.deref-4.ensures.value c.in_ok-of_4096.ensures.ok) in
      let by_32768 = blocks_of_blocks 4096 8 (plain sorted) of_4096 of_32768 by_4096
      (subst (λ ss. AreBlocks 8 (plain ss) of_32768) c.deref-5.ensures.value c.in_ok-of_32768.ensures.ok) in
      record {
        some = c.strip_width-width.ensures;
        permutation = c.in_ok-extents.ensures.permutation;
        strips = c.in_ok-extents.ensures.strips;
        heights = c.in_ok-extents.ensures.heights;
        bundles = tt;
        blocks = record { by_8 = by_8; by_64 = by_64; by_512 = by_512; by_4096 = by_4096; by_32768 = by_32768 };
      };
}
