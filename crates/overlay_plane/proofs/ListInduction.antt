-- Induction along a strict order on the entries of a list: fewer entries come before an entry than before a later
-- entry.
use Rattle.std.proofs.Common.{◌≡◌, ⊎_elim, ℕ, zero, suc, ◌<◌, ◌≤◌, Bool, true, false, cond, List, [], ◌∷◌, length}
use Rattle.std.proofs.Common.{Contains, refl, sym, subst, arith}
use Rattle.std.specs.List.{filter}
use Rattle.std.proofs.lemmas.Bool.{false≢true}
use Rattle.overlay_plane.proofs.LaterEntries.{Contains-cases}

-- if each entry that passes one test passes another, no more pass the first
no_more_pass : {X : Type 0} (p q : X → Bool) (xs : List X) → ((x : X) → p x ≡ true → q x ≡ true) →
    length (filter p xs) ≤ length (filter q xs)
no_more_pass p q [] h = omega arith
no_more_pass {X} p q (x ∷ xs) h = by (p x) (q x) (h x) (no_more_pass p q xs h)
  where
    by : (s t : Bool) → (s ≡ true → t ≡ true) → length (filter p xs) ≤ length (filter q xs) →
        length (cond s (x ∷ filter p xs) (filter p xs)) ≤ length (cond t (x ∷ filter q xs) (filter q xs))
    by true true also rest = omega arith
    by true false also rest = absurd (false≢true (also refl))
    by false true also rest = omega arith
    by false false also rest = rest

-- if some entry passes the second test alone, fewer pass the first
fewer_pass : {X : Type 0} (p q : X → Bool) (xs : List X) → ((x : X) → p x ≡ true → q x ≡ true) →
    (x : X) → Contains xs x → p x ≡ false → q x ≡ true →
    length (filter p xs) < length (filter q xs)
fewer_pass p q [] h x c failed passed = elim c.1 [ ]
fewer_pass {X} p q (y ∷ ys) h x c failed passed = ⊎_elim
    (λ is. here (p y) (q y) (subst (λ z. p z ≡ false) (sym is) failed) (subst (λ z. q z ≡ true) (sym is) passed)
    (no_more_pass p q ys h))
    (λ later. there (p y) (q y) (h y) (fewer_pass p q ys h x later failed passed))
    (Contains-cases y ys x c)
  where
    here : (s t : Bool) → s ≡ false → t ≡ true → length (filter p ys) ≤ length (filter q ys) →
        length (cond s (y ∷ filter p ys) (filter p ys)) < length (cond t (y ∷ filter q ys) (filter q ys))
    here false true e f rest = omega arith
    here true t e f rest = absurd (false≢true (sym e))
    here false false e f rest = absurd (false≢true f)

    there : (s t : Bool) → (s ≡ true → t ≡ true) → length (filter p ys) < length (filter q ys) →
        length (cond s (y ∷ filter p ys) (filter p ys)) < length (cond t (y ∷ filter q ys) (filter q ys))
    there true true also rest = omega arith
    there true false also rest = absurd (false≢true (also refl))
    there false true also rest = omega arith
    there false false also rest = rest

module _ {X : Type 0} (lower : X → X → Bool) (irreflexive : (x : X) → lower x x ≡ false)
    (transitive : (x y z : X) → lower x y ≡ true → lower y z ≡ true → lower x z ≡ true) (xs : List X) (P : X → Type 0)
    (step : (y : X) → ((x : X) → Contains xs x → lower x y ≡ true → P x) → P y) where
  -- a fact that holds if it holds of all lower entries, holds where fewer than n entries are lower
  below_many : (n : ℕ) (y : X) → length (filter (λ z. lower z y) xs) < n → P y
  below_many zero y few = absurd (omega arith)
  below_many (suc n) y few = step y (λ x c less. below_many n x
      (let fewer = fewer_pass (λ z. lower z x) (λ z. lower z y) xs (λ z lower_still. transitive z x y lower_still less)
      x c (irreflexive x) less in
      omega arith))

  -- the fact holds of all entries
  pub by_lower_entries : (y : X) → P y
  by_lower_entries y = below_many (suc (length (filter (λ z. lower z y) xs))) y (omega arith)
