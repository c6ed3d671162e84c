-- The first open place by an order, as a loop finds it that goes up place by place.
use Rattle.std.proofs.Common.{◌≡◌, ⊎_elim, ℕ, ◌+◌, ◌<◌, ◌≤◌, Bool, true, false, cond, ◌&&◌, refl, sym, subst, arith}
use Rattle.std.specs.Prelude.{Option, Some, None}
use Rattle.std.proofs.lemmas.Bool.{both_ways, false_from_ne_true, cases_lt}

-- the place between two places that is open, and before which no other open one comes
pub record IsFirstPlace (is_open : ℕ → Bool) (comes_before : ℕ → ℕ → Bool) (low high m : ℕ) : Type 0 where
  pub above : low ≤ m
  pub below : m < high
  pub untaken : is_open m ≡ true
  pub first : (k : ℕ) → low ≤ k → k < high → is_open k ≡ true → comes_before k m ≡ false

-- there is such a place, or none is open
abbrev pub IsFirstOf : (ℕ → Bool) → (ℕ → ℕ → Bool) → ℕ → ℕ → Option ℕ → Type 0
IsFirstOf is_open comes_before low high None = (k : ℕ) → low ≤ k → k < high → is_open k ≡ false
IsFirstOf is_open comes_before low high (Some m) = IsFirstPlace is_open comes_before low high m

-- the place comes before the place found so far, if there is one
abbrev pub comes_first : (ℕ → ℕ → Bool) → Option ℕ → ℕ → Bool
comes_first comes_before None i = true
comes_first comes_before (Some k) i = comes_before i k

-- the place if it is open and comes first, else the place found so far
abbrev pub first_so_far : (ℕ → Bool) → (ℕ → ℕ → Bool) → Option ℕ → ℕ → Option ℕ
first_so_far is_open comes_before found i = cond (is_open i && comes_first comes_before found i) (Some i) found

module _ (is_open : ℕ → Bool) (before : ℕ → ℕ → Bool) (bound : ℕ) (irreflexive : (k : ℕ) → before k k ≡ false)
    (transitive : (i j k : ℕ) → i < bound → j < bound → k < bound → before i j ≡ true → before j k ≡ true →
    before i k ≡ true) (low : ℕ) where
  -- a place up to the next is one up to here, or this one
  up_to_next : {P : Type 0} (i k : ℕ) → k < i + 1 → (k < i → P) → (k ≡ i → P) → P
  up_to_next i k h earlier here = ⊎_elim earlier (λ at. here (omega arith)) (cases_lt k i)

  -- an open place that comes first is found
  found_here : (i : ℕ) (found : Option ℕ) → low ≤ i → i < bound → IsFirstOf is_open before low i found →
      is_open i ≡ true → comes_first before found i ≡ true →
      IsFirstOf is_open before low (i + 1) (Some i)
  found_here i None above within none at first = record {
    above = above;
    below = omega arith;
    untaken = at;
    first = λ k h below opened. up_to_next i k below
        (λ earlier. absurd (both_ways (is_open k) (none k h earlier) opened))
        (λ here. subst (λ j. before j i ≡ false) (sym here) (irreflexive i));
  }
  found_here i (Some m) above within found at first = record {
    above = above;
    below = omega arith;
    untaken = at;
    first = λ k h below opened. up_to_next i k below
        (λ earlier. false_from_ne_true (before k i) (λ back. both_ways (before k m) (found.first k h earlier opened)
        (transitive k i m (omega arith) within (let b = found.below in omega arith) back first)))
        (λ here. subst (λ j. before j i ≡ false) (sym here) (irreflexive i));
  }

  -- a place that is not open does not change the place found
  stays_past_taken : (i : ℕ) (found : Option ℕ) → IsFirstOf is_open before low i found → is_open i ≡ false →
      IsFirstOf is_open before low (i + 1) found
  stays_past_taken i None none at = λ k h below. up_to_next i k below (none k h)
      (λ here. subst (λ j. is_open j ≡ false) (sym here) at)
  stays_past_taken i (Some m) found at = record {
    above = found.above;
    below = let b = found.below in omega arith;
    untaken = found.untaken;
    first = λ k h below opened. up_to_next i k below (λ earlier. found.first k h earlier opened)
        (λ here. absurd (both_ways (is_open k) (subst (λ j. is_open j ≡ false) (sym here) at) opened));
  }

  -- a place that does not come first does not change it either
  stays_past_later : (i : ℕ) (found : Option ℕ) → IsFirstOf is_open before low i found →
      comes_first before found i ≡ false → IsFirstOf is_open before low (i + 1) found
  stays_past_later i None none later = absurd (both_ways true later refl)
  stays_past_later i (Some m) found later = record {
    above = found.above;
    below = let b = found.below in omega arith;
    untaken = found.untaken;
    first = λ k h below opened. up_to_next i k below (λ earlier. found.first k h earlier opened)
        (λ here. subst (λ j. before j m ≡ false) (sym here) later);
  }

  -- one more place is tested
  pub looked_at : (i : ℕ) (found : Option ℕ) → low ≤ i → i < bound → IsFirstOf is_open before low i found →
      IsFirstOf is_open before low (i + 1) (first_so_far is_open before found i)
  looked_at i found above within first = by (is_open i) refl (comes_first before found i) refl
    where
      by : (s : Bool) → is_open i ≡ s → (t : Bool) → comes_first before found i ≡ t →
          IsFirstOf is_open before low (i + 1) (cond (s && t) (Some i) found)
      by true at true comes = found_here i found above within first at comes
      by true at false later = stays_past_later i found first later
      by false shut t comes = stays_past_taken i found first shut
