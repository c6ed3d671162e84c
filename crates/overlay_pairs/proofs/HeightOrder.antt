-- Boxes by their least heights: sorting brings them into this order.
use Rattle.std.proofs.Common.{Bool, ℤ, ◌≤ℤ◌, int_lt, List, AllPairs, get_or, arith}
use Rattle.std.specs.Cmp.{IsStrictWeakOrder}
use Rattle.std.specs.List.Sorted.{IsSortedBy}
use Rattle.std.proofs.lemmas.Int.{ints}
use Rattle.std.proofs.lemmas.List.Sorted.{sorted_far}
use Rattle.overlay_plane.proofs.Tests.{ge_from_test, lt_from_test, test_from_ge}
use Rattle.overlay_pairs.specs.declared.extents.Extent.{Extent}

module _ {I : Type 0} (whole : I → ℤ) where
  -- a program's boxes by their least heights
  abbrev pub is_lower : Extent I → Extent I → Bool
  is_lower s t = int_lt (whole s.low) (whole t.low)

  -- any two of them compare
  pub is_lower-order : IsStrictWeakOrder is_lower
  is_lower-order = record {
    one_way = λ s t test. let less = lt_from_test (whole s.low) (whole t.low) test in
        test_from_ge (whole t.low) (whole s.low) (omega (arith, ints));
    chain = λ s t u first second. let a = ge_from_test (whole s.low) (whole t.low) first in
        let b = ge_from_test (whole t.low) (whole u.low) second in
        test_from_ge (whole s.low) (whole u.low) (omega (arith, ints));
  }

  -- sorted so, they rise
  pub by_height-from_sorted : (ss : List (Extent I)) → IsSortedBy is_lower ss →
      AllPairs (λ s t. whole s.low ≤ℤ whole t.low) ss
  by_height-from_sorted ss up j k d less within = ge_from_test (whole (get_or ss k d).low) (whole (get_or ss j d).low)
      (sorted_far is_lower is_lower-order ss up j k d (omega (arith, less)) within)
