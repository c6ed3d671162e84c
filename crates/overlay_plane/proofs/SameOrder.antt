-- A list in order is the only such list with its entries. So a permutation of a list in order, once sorted, is that
-- list.
use Rattle.std.proofs.Common.{◌≡◌, inl, inr, Bool, true, false, cond, ℤ, pos, ◌+ℤ◌, ◌≤ℤ◌, List, [], ◌∷◌, Contains, refl}
use Rattle.std.proofs.Common.{sym, ap, ap₂, subst, ◌∙◌}
use Rattle.std.specs.Cmp.{IsStrictWeakOrder}
use Rattle.std.specs.List.Sorted.{IsPermutation}
use Rattle.overlay_geom.specs.Plane.{total}
use Rattle.overlay_geom.proofs.Signs.{linear}
use Rattle.overlay_geom.proofs.Totals.{total-IsPermutation}
use Rattle.overlay_plane.specs.InOrder.{in_order}
use Rattle.overlay_plane.proofs.InOrderLists.{total-in_order, IsWeakOrder, Each-in_weak_order}
use Rattle.overlay_plane.proofs.LaterEntries.{Each, Contains-cases}
use Rattle.overlay_plane.proofs.Totals.{total-zero}

-- a sum of numbers that are not negative is not negative
total-nonneg : {X : Type 0} (f : X → ℤ) (xs : List X) → ((x : X) → pos 0 ≤ℤ f x) → pos 0 ≤ℤ total f xs
total-nonneg f [] each = omega linear
total-nonneg f (x ∷ xs) each = let first = each x in let rest = total-nonneg f xs each in omega linear

module _ {X : Type 0} (lower : X → X → Bool) (order : IsStrictWeakOrder lower) where
  -- the second is not lower than the first
  abbrev pub IsNotAfter : X → X → Type 0
  IsNotAfter x y = lower y x ≡ false

  -- an entry is not lower than itself
  not_lower_itself : (x : X) → lower x x ≡ false
  not_lower_itself x = by (lower x x) refl
    where
      by : (t : Bool) → lower x x ≡ t → t ≡ false
      by true low = sym low ∙ order.one_way x x low
      by false same = refl

  -- the order is weak
  pub weak_order : IsWeakOrder lower IsNotAfter
  weak_order = record {
    transitive = λ x y z first second. order.chain z y x second first;
    passed = λ x y low. order.one_way x y low;
    failed = λ x y not_low. not_low;
  }

  -- how many entries of a list are lower than y: one for an entry that is
  abbrev lower_than : X → X → ℤ
  lower_than y z = cond (lower z y) (pos 1) (pos 0)

  -- that is not negative
  lower_than-nonneg : (y z : X) → pos 0 ≤ℤ lower_than y z
  lower_than-nonneg y z = by (lower z y)
    where
      by : (t : Bool) → pos 0 ≤ℤ cond t (pos 1) (pos 0)
      by true = omega linear
      by false = omega linear

  -- the first entry of a list in order has none that is lower
  none_lower : (y : X) (ys : List X) → Each IsNotAfter (y ∷ ys) → total (lower_than y) (y ∷ ys) ≡ pos 0
  none_lower y ys sorted = total-zero (lower_than y) (y ∷ ys) each
    where
      each : (z : X) → Contains (y ∷ ys) z → lower_than y z ≡ pos 0
      each z at = ap (λ t. cond t (pos 1) (pos 0))
          (elim (Contains-cases y ys z at) [
            | inl is ↦ subst (λ u. lower u y ≡ false) is (not_lower_itself y)
            | inr later
                ↦ sorted.0 z later
          ])

  -- of two lists in order with equal sums, no first entry is lower than the other
  not_lower_first : (x : X) (xs : List X) (y : X) (ys : List X) → Each IsNotAfter (y ∷ ys) →
      total (lower_than y) (x ∷ xs) ≡ total (lower_than y) (y ∷ ys) → lower x y ≡ false
  not_lower_first x xs y ys sorted same = by (lower x y) refl
    where
      by : (t : Bool) → lower x y ≡ t → t ≡ false
      by true low =
          let none : lower_than y x +ℤ total (lower_than y) xs ≡ pos 0 = same ∙ none_lower y ys sorted in
          let one : lower_than y x ≡ pos 1 = ap (λ t. cond t (pos 1) (pos 0)) low in
          let rest = total-nonneg (lower_than y) xs (lower_than-nonneg y) in
          absurd (omega linear)
      by false high = refl

  module _ (ties : (x y : X) → lower x y ≡ false → lower y x ≡ false → x ≡ y) where
    -- two lists in order with the same sums are equal
    one_order : (xs ys : List X) → Each IsNotAfter xs → Each IsNotAfter ys → ((f : X → ℤ) → total f xs ≡ total f ys) →
        xs ≡ ys
    one_order [] [] up also same = refl
    one_order [] (y ∷ ys) up also same = absurd (let one = same (λ z. pos 1) in
        let rest = total-nonneg (λ z. pos 1) ys (λ z. omega linear) in omega linear)
    one_order (x ∷ xs) [] up also same = absurd (let one = same (λ z. pos 1) in
        let rest = total-nonneg (λ z. pos 1) xs (λ z. omega linear) in omega linear)
    one_order (x ∷ xs) (y ∷ ys) up also same =
        ap₂ (λ z zs. z ∷ zs) first
        (one_order xs ys up.1 also.1 (λ f. let all = same f in let head = ap f first in omega linear))
      where
        first : x ≡ y
        first = ties x y (not_lower_first x xs y ys also (same (lower_than y)))
            (not_lower_first y ys x xs up (sym (same (lower_than x))))

    -- a permutation that is in order is the list put in order
    pub is_in_order : (xs ys : List X) → IsPermutation xs ys → Each IsNotAfter ys → ys ≡ in_order lower xs
    is_in_order xs ys moved sorted = one_order ys (in_order lower xs) sorted
        (Each-in_weak_order lower IsNotAfter weak_order xs) (λ f. total-IsPermutation f xs ys moved
        ∙ sym (total-in_order lower f xs))
