-- The number of entries that pass a test from the first on, and the entries that pass if none does after one that
-- fails.
use Rattle.std.proofs.Common.{◌≡◌, Bool, true, false, cond, ℕ, suc, ◌+◌, List, [], ◌∷◌, take, drop}
use Rattle.std.proofs.Common.{refl, sym, ap, ◌∙◌, arith}
use Rattle.std.specs.List.{All, filter, prefix_len}
use Rattle.std.proofs.lemmas.Bool.{false≢true}
use Rattle.std.proofs.lemmas.List.Elements.{All-nil, All-cons, All-head, All-tail, All-weaker}
use Rattle.overlay_geom.proofs.Merging.{AllPairs-head, AllPairs-tail}
use Rattle.overlay_scan.specs.Lists.{PassBefore}

-- ---- tests that agree

-- tests that agree on the items count the same
pub prefix-same : {X : Type 0} (s t : X → Bool) (xs : List X) → All (λ x. s x ≡ t x) xs →
    prefix_len s xs ≡ prefix_len t xs
prefix-same s t [] h = refl
prefix-same s t (x ∷ xs) h = ap (λ b. cond b (1 + prefix_len s xs) 0) (All-head (λ x. s x ≡ t x) x xs h)
    ∙ ap (λ n. cond (t x) (1 + n) 0) (prefix-same s t xs (All-tail (λ x. s x ≡ t x) x xs h))

-- an item fails if its passing would make x pass, which fails
fails_with : (s t : Bool) → s ≡ false → (t ≡ true → s ≡ true) → t ≡ false
fails_with s true e h = absurd (false≢true (sym e ∙ h refl))
fails_with s false e h = refl

-- after an item that fails all fail
fail_after : {X : Type 0} (test : X → Bool) (x : X) (xs : List X) → PassBefore test (x ∷ xs) → test x ≡ false →
    All (λ y. test y ≡ false) xs
fail_after test x xs h e = All-weaker (λ y. test y ≡ true → test x ≡ true) (λ y. test y ≡ false)
    (λ y k. fails_with (test x) (test y) e k) xs
    (AllPairs-head (λ x y. test y ≡ true → test x ≡ true) x xs h)

filter_none : {X : Type 0} (test : X → Bool) (xs : List X) → All (λ x. test x ≡ false) xs → filter test xs ≡ []
filter_none test [] h = refl
filter_none test (x ∷ xs) h = ap (λ b. cond b (x ∷ filter test xs) (filter test xs))
    (All-head (λ x. test x ≡ false) x xs h)
    ∙ filter_none test xs (All-tail (λ x. test x ≡ false) x xs h)

one_more : (n : ℕ) → 1 + n ≡ suc n
one_more n = omega arith

take_next : {X : Type 0} (n : ℕ) (x : X) (xs : List X) → take (1 + n) (x ∷ xs) ≡ x ∷ take n xs
take_next n x xs = ap (λ m. take m (x ∷ xs)) (one_more n)

drop_next : {X : Type 0} (n : ℕ) (x : X) (xs : List X) → drop (1 + n) (x ∷ xs) ≡ drop n xs
drop_next n x xs = ap (λ m. drop m (x ∷ xs)) (one_more n)

module _ {X : Type 0} (test : X → Bool) where
  -- the items that pass are those that the count passes
  pub filter_is_prefix : (xs : List X) → PassBefore test xs → filter test xs ≡ take (prefix_len test xs) xs
  filter_is_prefix [] h = refl
  filter_is_prefix (x ∷ xs) h = by (test x) refl
      (filter_is_prefix xs (AllPairs-tail (λ x y. test y ≡ true → test x ≡ true) x xs h))
    where
      by : (b : Bool) → test x ≡ b → filter test xs ≡ take (prefix_len test xs) xs →
          cond (test x) (x ∷ filter test xs) (filter test xs) ≡ take (cond (test x) (1 + prefix_len test xs) 0) (x ∷ xs)
      by true e rest = rw e (ap (λ l. x ∷ l) rest ∙ sym (take_next (prefix_len test xs) x xs))
      by false e rest = rw e (filter_none test xs (fail_after test x xs h e))

  -- each of them passes
  pub prefix_passes : (xs : List X) → All (λ x. test x ≡ true) (take (prefix_len test xs) xs)
  prefix_passes [] = All-nil (λ x. test x ≡ true)
  prefix_passes (x ∷ xs) = by (test x) refl (prefix_passes xs)
    where
      by : (b : Bool) → test x ≡ b → All (λ x. test x ≡ true) (take (prefix_len test xs) xs) →
          All (λ x. test x ≡ true) (take (cond (test x) (1 + prefix_len test xs) 0) (x ∷ xs))
      by true e rest = rw e (rw (take_next (prefix_len test xs) x xs)
          (All-cons (λ x. test x ≡ true) x (take (prefix_len test xs) xs) e rest))
      by false e rest = rw e (All-nil (λ x. test x ≡ true))

  -- each of the other items fails
  pub others_fail : (xs : List X) → PassBefore test xs → All (λ x. test x ≡ false) (drop (prefix_len test xs) xs)
  others_fail [] h = All-nil (λ x. test x ≡ false)
  others_fail (x ∷ xs) h = by (test x) refl
      (others_fail xs (AllPairs-tail (λ x y. test y ≡ true → test x ≡ true) x xs h))
    where
      by : (b : Bool) → test x ≡ b → All (λ x. test x ≡ false) (drop (prefix_len test xs) xs) →
          All (λ x. test x ≡ false) (drop (cond (test x) (1 + prefix_len test xs) 0) (x ∷ xs))
      by true e rest = rw e (rw (drop_next (prefix_len test xs) x xs) rest)
      by false e rest = rw e (All-cons (λ x. test x ≡ false) x xs e (fail_after test x xs h e))
