-- A loop that replaces each number of a list by the entry of another list at that number.
use Rattle.std.proofs.Common.{◌≡◌, ⊎_elim, ℕ, ◌+◌, ◌<◌, ◌≤◌, List, length, get_or, set, refl, sym, ◌∙◌, subst, arith}
use Rattle.std.proofs.lemmas.List.{get_or_default, get_or-set_same, get_or-set_other, length-set}
use Rattle.std.proofs.Math.Nat.{eq-or-lt_of_le}
use Rattle.overlay_pairs.specs.Changed.{ArePlacesAt}
use Rattle.overlay_pairs.specs.Places.{IsAt}

-- the numbers before place n have been put, and the others are as they were
pub record ArePutUpTo (places ks js : List ℕ) (n : ℕ) : Type 0 where
  pub count : length js ≡ length ks
  pub put : (m k j : ℕ) → m < n → IsAt ks m k → IsAt places k j → IsAt js m j
  pub rest : (m k : ℕ) → n ≤ m → IsAt ks m k → IsAt js m k

module _ (places ks : List ℕ) where
  -- at first none has been put
  pub none_put : ArePutUpTo places ks ks 0
  none_put = record { count = refl; put = λ m k j less. absurd (omega (arith, less)); rest = λ m k from at. at }

  -- then one more
  pub put_more : (js : List ℕ) (n y : ℕ) → n < length js → y ≡ get_or places (get_or js n 0) 0 →
      ArePutUpTo places ks js n → ArePutUpTo places ks (set js n y) (n + 1)
  put_more js n y inside is so_far = record {
    count = length-set js n y ∙ so_far.count;
    put = λ m k j less at_k at_j. ⊎_elim
        (λ (here : m ≡ n). subst (λ p. IsAt (set js n y) p j) (sym here)
        (by k j (subst (λ p. IsAt ks p k) here at_k) at_j))
        (λ (before : m < n). other m j (omega (arith, before)) (so_far.put m k j before at_k at_j))
        (eq-or-lt_of_le (let le : m ≤ n = omega (arith, less) in le));
    rest = λ m k from at_k. other m k (omega (arith, from)) (so_far.rest m k (omega (arith, from)) at_k);
  }
    where
      other : (m j : ℕ) → ¬ (m ≡ n) → IsAt js m j → IsAt (set js n y) m j
      other m j apart at = (
        (let l = length-set js n y in omega (arith, l, at.0)),
        get_or-set_other js n m y j apart ∙ at.1,
      )

      by : (k j : ℕ) → IsAt ks n k → IsAt places k j → IsAt (set js n y) n j
      by k j at_k at_j =
          let at_n = so_far.rest n k (omega arith) at_k in
          let k_is : get_or js n 0 ≡ k = get_or_default js n 0 k inside ∙ at_n.1 in
          let j_is : y ≡ j = is ∙ subst (λ p. get_or places p 0 ≡ j) (sym k_is)
          (get_or_default places k 0 j at_j.0 ∙ at_j.1) in (
            (let l = length-set js n y in omega (arith, l, inside)),
            get_or-set_same js n y j inside ∙ j_is,
          )

  -- where all places have been passed, all have been put
  pub all_put : (js : List ℕ) (n : ℕ) → length ks ≤ n → ArePutUpTo places ks js n → ArePlacesAt places ks js
  all_put js n past so_far = record {
    count = so_far.count;
    at = λ m k j at_k at_j. so_far.put m k j (omega (arith, past, at_k.0)) at_k at_j;
  }
