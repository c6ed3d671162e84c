-- Of more numbers than there are places below n, two are equal; and the first number below n that passes a test.
use Rattle.std.proofs.Common.{◌≡◌, ◌⊎◌, inl, inr, ⊎_elim, ℕ, zero, suc, ◌-◌, ◌<◌, ◌≤◌, Bool, true, false, cond, ltb}
use Rattle.std.proofs.Common.{eqb, refl, sym, subst, arith}
use Rattle.std.proofs.lemmas.Bool.{eqb-true, eqb-false, ltb-true, ltb-false}
use Rattle.std.proofs.lemmas.Bool.Decides.{nat_tests}

-- k is below n and passes the test, and no number before it does
pub record IsFirst (passes : ℕ → Bool) (n k : ℕ) : Type 0 where
  pub below : k < n
  pub passed : passes k ≡ true
  pub none_before : (j : ℕ) → j < k → passes j ≡ false

-- no number below n passes the test, or there is a first one that does
pub first_below : (passes : ℕ → Bool) (n : ℕ) → ((k : ℕ) → k < n → passes k ≡ false) ⊎ ((k : ℕ) × IsFirst passes n k)
first_below passes zero = inl (λ k h. absurd (omega arith))
first_below passes (suc n) = by (passes n) refl (first_below passes n)
  where
    by : (b : Bool) → passes n ≡ b → ((k : ℕ) → k < n → passes k ≡ false) ⊎ ((k : ℕ) × IsFirst passes n k) →
        ((k : ℕ) → k < suc n → passes k ≡ false) ⊎ ((k : ℕ) × IsFirst passes (suc n) k)
    by b e (inr (k, h)) = inr (
      k,
      record {
        below = let l = h.below in
            omega arith;
        passed = h.passed;
        none_before = h.none_before;
      },
    )
    by true e (inl none) = inr (n, record { below = omega arith; passed = e; none_before = none })
    by false e (inl none) = inl (λ k h. ⊎_elim (λ less. none k less)
        (λ last. subst (λ j. passes j ≡ false) (sym last) e) (split k h))
      where
        split : (k : ℕ) → k < suc n → (k < n) ⊎ (k ≡ n)
        split k h = grind (arith, nat_tests)

-- two places hold the same number
abbrev pub Twice : ℕ → (ℕ → ℕ) → Type 0
Twice n f = (i : ℕ) × (j : ℕ) × (i < j) × (j ≤ n) × (f i ≡ f j)

-- numbers other than a, with those above a moved down by one
moved : ℕ → ℕ → ℕ
moved a x = cond (ltb a x) (x - 1) x

-- numbers up to m, other than a, are moved below m
moved_below : (a x m : ℕ) → ¬ (x ≡ a) → x < suc m → a < suc m → moved a x < m
unfolding moved
moved_below a x m other h k = by (ltb a x) refl
  where
    by : (b : Bool) → ltb a x ≡ b → cond b (x - 1) x < m
    by true e = let l = ltb-true a x e in omega arith
    by false e = let l = ltb-false a x e in omega arith

-- different numbers other than a stay different
moved_apart : (a x y : ℕ) → ¬ (x ≡ a) → ¬ (y ≡ a) → moved a x ≡ moved a y → x ≡ y
unfolding moved
moved_apart a x y other_x other_y = by (ltb a x) (ltb a y) refl refl
  where
    by : (b c : Bool) → ltb a x ≡ b → ltb a y ≡ c → cond b (x - 1) x ≡ cond c (y - 1) y → x ≡ y
    by true true p q e = let l = ltb-true a x p in let k = ltb-true a y q in omega arith
    by true false p q e = let l = ltb-true a x p in let k = ltb-false a y q in omega arith
    by false true p q e = let l = ltb-false a x p in let k = ltb-true a y q in omega arith
    by false false p q e = omega arith

-- n + 1 numbers below n: two of them are equal
pub pigeonhole : (n : ℕ) (f : ℕ → ℕ) → ((k : ℕ) → k ≤ n → f k < n) → Twice n f
pigeonhole zero f h = absurd (let l = h 0 (omega arith) in omega arith)
pigeonhole (suc m) f h = ⊎_elim
    (λ none. apart none (pigeonhole m (λ k. moved (f (suc m)) (f k))
    (λ k l. moved_below (f (suc m)) (f k) m (λ e. eqb-false (f k) (f (suc m)) (none k (omega arith)) e)
    (h k (omega arith)) (h (suc m) (omega arith)))))
    (λ some. (
      some.0,
      suc m,
      (let l = (some.1).below in l),
      (omega arith),
      eqb-true (f some.0) (f (suc m)) (some.1).passed,
    )) (first_below (λ k. eqb (f k) (f (suc m))) (suc m))
  where
    apart : ((k : ℕ) → k < suc m → eqb (f k) (f (suc m)) ≡ false) → Twice m (λ k. moved (f (suc m)) (f k)) →
        Twice (suc m) f
    apart none (i, j, less, most, same) = (
      i,
      j,
      less,
      (omega arith),
      moved_apart (f (suc m)) (f i) (f j)
          (λ e. eqb-false (f i) (f (suc m)) (none i (omega arith)) e)
          (λ e. eqb-false (f j) (f (suc m)) (none j (omega arith)) e) same,
    )
