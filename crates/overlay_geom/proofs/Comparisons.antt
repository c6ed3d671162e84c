-- The comparison of two whole numbers, and the tests of its answer.
use Rattle.std.proofs.Common.{◌≡◌, Bool, true, false, cond, ℤ, ◌<ℤ◌, int_lt, int_le, refl, sym, ◌∙◌, arith}
use Rattle.std.specs.Bool.{Decides}
use Rattle.std.specs.Ordering.{MatchOrdering, is_lt, is_le, is_gt, is_eq, int_cmp}
use Rattle.std.specs.declared.cmp.Ordering.{Ordering}
use Rattle.std.specs.declared.cmp.Ordering.TheVariants.{Less, Equal, Greater}
use Rattle.std.proofs.lemmas.Cmp.{int_ranked}
use Rattle.std.proofs.lemmas.Int.{ints}

-- the comparison answers `Less` where the first number is below the second
pub is_lt-int_cmp : (x y : ℤ) → is_lt (int_cmp x y) ≡ int_lt x y
is_lt-int_cmp x y = by_cases (int_lt x y) (int_lt y x)
  where
    by_cases : (b c : Bool) → is_lt (cond b Less (cond c Greater Equal)) ≡ b
    by_cases true c = refl
    by_cases false true = refl
    by_cases false false = refl

-- it answers `Greater` where the second is below the first
pub is_gt-int_cmp : (x y : ℤ) → is_gt (int_cmp x y) ≡ int_lt y x
is_gt-int_cmp x y = grind (arith, ints)

-- the comparison is not Greater exactly where the first is at most the second
pub is_le-int_cmp : (x y : ℤ) → is_le (int_cmp x y) ≡ int_le x y
is_le-int_cmp x y = grind (arith, ints)

-- the test tells whether the first number is below the second
pub Decides-int_lt : (x y : ℤ) → Decides (int_lt x y) (x <ℤ y)
Decides-int_lt x y = (λ h. grind (arith, ints), λ h. grind (arith, ints))

-- numbers that a comparison of the program finds equal are equal
pub same_from_compared : (x y : ℤ) (o : Ordering) (r : Bool) → o ≡ int_cmp x y → r ≡ is_eq o → r ≡ true → x ≡ y
same_from_compared x y o r order answer equal = by o (int_ranked x y o order) (sym answer ∙ equal)
  where
    by : (o : Ordering) → MatchOrdering o (x <ℤ y) (x ≡ y) (y <ℤ x) → is_eq o ≡ true → x ≡ y
    by Less m h = absurd (cc)
    by Equal m h = m
    by Greater m h = absurd (cc)
