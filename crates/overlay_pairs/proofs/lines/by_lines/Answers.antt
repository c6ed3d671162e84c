-- The boxes are moved.
use Rattle.std.proofs.Common.{subst}
use Rattle.std.specs.List.Sorted.{IsPermutation}
use Rattle.std.proofs.lemmas.List.Sorted.{IsPermutation-map}
use Rattle.overlay_pairs.specs.Extents.{plain_extent, plain_extents}
use Rattle.overlay_pairs.proofs.lines.by_lines.Goals as goal

pub returns : goal.returns
returns g c = record {
  permutation = let whole = g.I.IntNumber.whole in
      subst (λ ss. IsPermutation ss (plain_extents whole c.take_in_order.new.items.items))
      c.in_ok-extents.ensures.ok
      (IsPermutation-map (plain_extent whole) c.in_ok-extents.extents.items c.take_in_order.new.items.items
      c.take_in_order.ensures.items);
}
