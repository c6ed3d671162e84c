-- The comparison of twice a number with a sum of two others, which the program makes by half of the sum and the
-- remainder.
use Rattle.std.proofs.Common.{◌≡◌, ◌≢◌, ℕ, ◌+◌, ◌<◌, ◌^◌, ℤ, pos, ◌+ℤ◌, ◌*ℤ◌, ◌<ℤ◌, refl, sym, subst, ◌∙◌, lit<, arith}
use Rattle.std.proofs.Common.{to_z, of_z, FitsSigned}
use Rattle.std.specs.Int.RustNames.{int_div, int_rem, unsigned_abs}
use Rattle.std.specs.Ordering.{MatchOrdering, int_cmp}
use Rattle.std.specs.declared.cmp.Ordering.{Ordering}
use Rattle.std.specs.declared.cmp.Ordering.TheVariants.{Less, Equal, Greater}
use Rattle.std.specs.Cmp.{int_cmp_is}
use Rattle.std.proofs.lemmas.Cmp.{int_ranked}
use Rattle.std.proofs.lemmas.Int.{ints, quot-rem, quot_fits, rem_below, rem_is, to_z-of_z}
use Rattle.overlay_geom.specs.Numbers.{Within}
use Rattle.overlay_geom.proofs.Products.{doubled}
use Rattle.overlay_geom.proofs.Widths.{Exact, Exact-stored, Exact-widened, Within-fits}
use mir.Syntax.{Width}
use mir.Val.{hbits}

-- ---- halves

module _ (c s q r : ℤ) (whole : q *ℤ pos 2 +ℤ r ≡ s) (rest : unsigned_abs r < 2) where
  -- where c is not q, 2c compares with s as c compares with q, the half of s
  pub doubled-compared : (o : Ordering) → o ≡ int_cmp c q → o ≢ Equal → o ≡ int_cmp (pos 2 *ℤ c) s
  doubled-compared o compared isnt = int_cmp_is (pos 2 *ℤ c) s o (by o isnt (int_ranked c q o compared))
    where
      twice : pos 2 *ℤ c ≡ c +ℤ c
      twice = omega (arith, ints)

      by : (p : Ordering) → p ≢ Equal → MatchOrdering p (c <ℤ q) (c ≡ q) (q <ℤ c) →
          MatchOrdering p ((pos 2 *ℤ c) <ℤ s) (pos 2 *ℤ c ≡ s) (s <ℤ (pos 2 *ℤ c))
      by Less n m = let lt : c <ℤ q = m in omega (arith, ints, whole, rest, lt, twice, doubled q)
      by Equal n m = absurd (n refl)
      by Greater n m = let lt : q <ℤ c = m in omega (arith, ints, whole, rest, lt, twice, doubled q)

  -- if the half ties, the remainder compares with 0
  pub doubled-compared_rest : (o : Ordering) → o ≡ int_cmp c q → o ≡ Equal → (p : Ordering) → p ≡ int_cmp (pos 0) r →
      p ≡ int_cmp (pos 2 *ℤ c) s
  doubled-compared_rest o compared is p order = subst (λ z. p ≡ int_cmp (pos 2 *ℤ z) s) (sym half)
      (int_cmp_is (pos 2 *ℤ q) s p (by p (int_ranked (pos 0) r p order)))
    where
      half : c ≡ q
      half = int_ranked c q Equal (sym is ∙ compared)

      twice : pos 2 *ℤ q ≡ q +ℤ q
      twice = omega (arith, ints)

      by : (k : Ordering) → MatchOrdering k (pos 0 <ℤ r) (pos 0 ≡ r) (r <ℤ pos 0) →
          MatchOrdering k ((pos 2 *ℤ q) <ℤ s) (pos 2 *ℤ q ≡ s) (s <ℤ (pos 2 *ℤ q))
      by Less m = let lt : pos 0 <ℤ r = m in omega (arith, ints, whole, lt, twice, doubled q)
      by Equal m = let same : pos 0 ≡ r = m in omega (arith, ints, whole, same, twice, doubled q)
      by Greater m = let lt : r <ℤ pos 0 = m in omega (arith, ints, whole, lt, twice, doubled q)

-- ---- computed

-- the sum that the program computes of two widened numbers
abbrev pub sum_at : Width → ℤ → ℤ → ℤ
sum_at w u v = to_z w (of_z w (to_z w (of_z w u) +ℤ to_z w (of_z w v)))

-- the sum of two numbers within m is within m + m
Within-plus : (m : ℕ) (a b : ℤ) → Within m a → Within m b → Within (m + m) (a +ℤ b)
Within-plus m a b u v = record {
  low = omega (arith, ints, u.low, v.low);
  high = omega (arith, ints, u.high, v.high);
}

-- numbers x and y of the width n, widened to u and v of the width w
pub record Widened (n w : Width) (m : ℕ) (x y u v : ℤ) : Type 0 where
  pub room : m + m < 2 ^ hbits w
  pub x_fits : FitsSigned n x
  pub y_fits : FitsSigned n y
  pub x_within : Within m x
  pub y_within : Within m y
  pub x_widened : u ≡ to_z n (of_z n x)
  pub y_widened : v ≡ to_z n (of_z n y)

module _ (n w : Width) (m : ℕ) (c x y u v : ℤ) (widened : Widened n w m x y u v) (fits : FitsSigned w c)
    (two : FitsSigned w (pos 2)) where
  -- their sum is the sum that it computes
  summed : Exact (m + m) (x +ℤ y) (sum_at w u v)
  summed =
      let room = widened.room in
      let less : m < 2 ^ hbits w = omega (arith, room) in
      let left = Exact-widened n w m x u less widened.x_fits widened.x_within widened.x_widened in
      let right = Exact-widened n w m y v less widened.y_fits widened.y_within widened.y_widened in
      Exact-stored w (m + m) (x +ℤ y) (to_z w (of_z w u) +ℤ to_z w (of_z w v)) room
      (Within-plus m x y widened.x_within widened.y_within)
      (rw (left.same, right.same) refl)

  sum_fits : FitsSigned w (x +ℤ y)
  sum_fits = Within-fits w (m + m) (x +ℤ y) widened.room summed.within

  -- the half of the sum is exact
  half_is : to_z w (of_z w (int_div (sum_at w u v) (pos 2))) ≡ int_div (x +ℤ y) (pos 2)
  half_is = rw summed.same
      (to_z-of_z w (int_div (x +ℤ y) (pos 2)) (quot_fits w (x +ℤ y) (pos 2) sum_fits (record { lt = tt })))

  -- the remainder of the sum is exact
  rest_is : to_z w (of_z w (int_rem (sum_at w u v) (pos 2))) ≡ int_rem (x +ℤ y) (pos 2)
  rest_is = rw summed.same
      (rw (to_z-of_z w (x +ℤ y) sum_fits, to_z-of_z w (pos 2) two) at (rem_is w (x +ℤ y) (pos 2) sum_fits two))

  module _ (o : Ordering)
      (compared : o ≡ int_cmp (to_z w (of_z w c)) (to_z w (of_z w (int_div (sum_at w u v) (pos 2))))) where
    read : o ≡ int_cmp c (int_div (x +ℤ y) (pos 2))
    read = compared ∙ rw (to_z-of_z w c fits, half_is) refl

    -- where it finds the number other than half of the sum, that tells
    pub compared_with_half : o ≢ Equal → o ≡ int_cmp (pos 2 *ℤ c) (x +ℤ y)
    compared_with_half isnt = doubled-compared c (x +ℤ y) _ _ (quot-rem (x +ℤ y) (pos 2))
        (rem_below (x +ℤ y) (pos 2) (lit< tt)) o read isnt

    -- if the half ties, the remainder decides
    pub compared_by_rest : o ≡ Equal → (p : Ordering) →
        p ≡ int_cmp (pos 0) (to_z w (of_z w (int_rem (sum_at w u v) (pos 2)))) → p ≡ int_cmp (pos 2 *ℤ c) (x +ℤ y)
    compared_by_rest is p order = doubled-compared_rest c (x +ℤ y) _ _ (quot-rem (x +ℤ y) (pos 2))
        (rem_below (x +ℤ y) (pos 2) (lit< tt)) o read is p (order ∙ rw rest_is refl)
