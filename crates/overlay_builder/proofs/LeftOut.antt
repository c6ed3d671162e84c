-- The test whether thinning left out a point: the list is shorter, or it is the given list.
use Rattle.std.specs.Prelude.{◌↔◌, false}
use Rattle.std.proofs.Common.{nat_lt, ◌≡◌, ℕ, ◌+◌, ◌<◌, ◌≤◌, ◌⊎◌, inl, inr, List, length, remove, refl, ap, subst}
use Rattle.std.proofs.Common.{arith}
use Rattle.std.proofs.lemmas.Bool.{ltb-false, le-ltb}
use Rattle.std.proofs.lemmas.List.Edits.{length-remove}
use Rattle.overlay_geom.specs.Plane.{Point}
use Rattle.overlay_geom.specs.Thinned.{IsThinned, IsStraightAt}
use Rattle.overlay_geom.specs.Thinned.IsThinned.{thin, drop_one}

-- a thinned list is the given list, or a shorter one
thinned_is_shorter : (ps qs : List Point) → IsThinned ps qs → (qs ≡ ps) ⊎ (length qs < length ps)
thinned_is_shorter ps _ (thin none) = inl refl
thinned_is_shorter ps qs (drop_one k within straight rest) = inr (shorter (thinned_is_shorter _ qs rest))
  where
    one_less : length (remove ps k) + 1 ≡ length ps
    one_less = length-remove ps k within

    shorter : (qs ≡ remove ps k) ⊎ (length qs < length (remove ps k)) → length qs < length ps
    shorter (inl same) = omega (arith, ap length same, one_less)
    shorter (inr less) = omega (arith, less, one_less)

-- where a list may be thinned to itself, no point of it is straight
none_is_straight : (ps qs : List Point) → IsThinned ps qs → qs ≡ ps → (k : ℕ) → k < length ps → ¬ (IsStraightAt ps k)
none_is_straight ps _ (thin none) same = none
none_is_straight ps qs (drop_one k within straight rest) same = absurd
    (too_short (thinned_is_shorter (remove ps k) qs rest))
  where
    one_less : length (remove ps k) + 1 ≡ length ps
    one_less = length-remove ps k within

    too_short : ¬ ((qs ≡ remove ps k) ⊎ (length qs < length (remove ps k)))
    too_short (inl is) = omega (arith, ap length same, ap length is, one_less)
    too_short (inr less) = omega (arith, less, ap length same, one_less)

-- such a list has no other thinned list
thinned_to_itself : (ps qs : List Point) → ((k : ℕ) → k < length ps → ¬ (IsStraightAt ps k)) → IsThinned ps qs → qs ≡ ps
thinned_to_itself ps _ none (thin h) = refl
thinned_to_itself ps qs none (drop_one k within straight rest) = absurd (none k within straight)

-- where it may be thinned to itself, it is thinned to nothing else
pub thinned_whole : (ps qs : List Point) → IsThinned ps qs → IsThinned ps ps → qs ≡ ps
thinned_whole ps qs thinned itself = thinned_to_itself ps qs (none_is_straight ps ps itself refl) thinned

-- where thinning left no fewer points, a list may be thinned to itself
pub none_left_out : (ps qs : List Point) → IsThinned ps qs → length ps ≤ length qs → IsThinned ps ps
none_left_out ps qs thinned as_many = by (thinned_is_shorter ps qs thinned)
  where
    by : (qs ≡ ps) ⊎ (length qs < length ps) → IsThinned ps ps
    by (inl same) = subst (IsThinned ps) same thinned
    by (inr less) = absurd (omega (arith, less, as_many))

-- a list that is its own thinned list loses no point by thinning
pub as_many_left : (ps qs : List Point) → IsThinned ps qs → IsThinned ps ps → length ps ≤ length qs
as_many_left ps qs thinned itself = omega
    (arith, ap length (thinned_whole ps qs thinned itself))

-- whether a point was left out, told by the lengths
pub left_out : (few many : ℕ) (ps qs : List Point) → few ≡ length qs → many ≡ length ps → IsThinned ps qs
    → (nat_lt few many ≡ false) ↔ IsThinned ps ps
left_out few many ps qs few_is many_is thinned = (
  λ no. none_left_out ps qs thinned (omega (arith, ltb-false few many no, few_is, many_is)),
  λ itself. le-ltb few many (omega (arith, as_many_left ps qs thinned itself, few_is, many_is)),
)
