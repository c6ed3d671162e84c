-- Numbers of shapes from a number on, and each of these.
use Rattle.std.proofs.Common.{◌≡◌, inl, inr, ℕ, zero, suc, ◌<◌, Bool, true, false, not, ◌&&◌, ltb, eqb}
use Rattle.std.proofs.Common.{Option, Some, None, refl, ap, arith}
use Rattle.std.proofs.lemmas.Bool.{both_ways}
use Rattle.std.proofs.lemmas.Bool.Decides.{nat_tests}
use Rattle.overlay_plane.specs.Binding.{is_number}
use Rattle.overlay_plane.proofs.SplitLists.{IsSplit}

-- the number is n or greater
abbrev pub is_from : ℕ → Option ℕ → Bool
is_from n None = false
is_from n (Some m) = not (ltb m n)

-- each number is
pub from_start : (m : ℕ) → is_from zero (Some m) ≡ true
from_start m = ap not none_below
  where
    none_below : ltb m zero ≡ false
    none_below = grind (arith, nat_tests)

-- a number from n on is n, or one from the next number on
pub number_split : (n : ℕ) (hole : Bool) (shape : Option ℕ) →
    IsSplit (hole && is_from n shape) (hole && is_number n shape) (hole && is_from (suc n) shape)
number_split n false shape = inr (refl, refl)
number_split n true None = inr (refl, refl)
number_split n true (Some m) = by (eqb m n) refl
  where
    by : (t : Bool) → eqb m n ≡ t → IsSplit (not (ltb m n)) (eqb m n) (not (ltb m (suc n)))
    by true same = inl (same, ap not (less same), ap not (not_less same))
      where
        less : eqb m n ≡ true → ltb m (suc n) ≡ true
        less e = grind (arith, nat_tests)

        not_less : eqb m n ≡ true → ltb m n ≡ false
        not_less e = grind (arith, nat_tests)
    by false apart = inr (apart, ap not (alike apart))
      where
        alike : eqb m n ≡ false → ltb m (suc n) ≡ ltb m n
        alike e = grind (arith, nat_tests)

-- no number from n on is below n
pub not_below : (n m : ℕ) → is_from n (Some m) ≡ true → ¬ (m < n)
not_below n m from below = both_ways (not (ltb m n)) (ap not (less below)) from
  where
    less : m < n → ltb m n ≡ true
    less h = grind (arith, nat_tests)
