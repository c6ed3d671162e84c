-- Lists of numbers without repetition, and their parts.
use Rattle.std.proofs.Common.{◌≡◌, ◌⊎◌, ⊎_elim, inl, inr, true, false, ℕ, ◌<◌, ◌≤◌, List, [], ◌∷◌, ◌++◌, length}
use Rattle.std.proofs.Common.{refl, eqb, subst}
use Rattle.std.specs.List.{AllByRecursion, IsDistinct, list_any}
use Rattle.std.proofs.lemmas.Bool.{eqb-true, or_cases, false_from_ne_true, false≢true}
use Rattle.std.proofs.lemmas.Map.Steps.{length-le_from_distinct_below}
use Rattle.overlay_scan.specs.Trees.{IsIn, AreDistinct}

-- ---- two lists together

pub in_left : (k : ℕ) (is js : List ℕ) → IsIn k is → IsIn k (is ++ js)
in_left k [] js at = absurd at
in_left k (i ∷ is) js at = ⊎_elim (λ here. inl here) (λ later. inr (in_left k is js later)) at

pub in_right : (k : ℕ) (is js : List ℕ) → IsIn k js → IsIn k (is ++ js)
in_right k [] js at = at
in_right k (i ∷ is) js at = inr (in_right k is js at)

pub in_either : (k : ℕ) (is js : List ℕ) → IsIn k (is ++ js) → IsIn k is ⊎ IsIn k js
in_either k [] js at = inr at
in_either k (i ∷ is) js at = ⊎_elim (λ here. inl (inl here))
    (λ later. ⊎_elim (λ first. inl (inr first)) (λ second. inr second) (in_either k is js later)) at

-- no number is in both lists
abbrev pub AreApart : List ℕ → List ℕ → Type 0
AreApart is js = (k : ℕ) → IsIn k is → IsIn k js → ⊥

pub distinct_left : (is js : List ℕ) → AreDistinct (is ++ js) → AreDistinct is
distinct_left [] js d = tt
distinct_left (i ∷ is) js d = ((λ at. d.0 (in_left i is js at)), distinct_left is js d.1)

pub distinct_right : (is js : List ℕ) → AreDistinct (is ++ js) → AreDistinct js
distinct_right [] js d = d
distinct_right (i ∷ is) js d = distinct_right is js d.1

pub distinct_apart : (is js : List ℕ) → AreDistinct (is ++ js) → AreApart is js
distinct_apart [] js d k at also = at
distinct_apart (i ∷ is) js d k at also = ⊎_elim
    (λ here. d.0 (in_right i is js (subst (λ j. IsIn j js) here also)))
    (λ later. distinct_apart is js d.1 k later also) at

pub distinct_joined : (is js : List ℕ) → AreDistinct is → AreDistinct js → AreApart is js → AreDistinct (is ++ js)
distinct_joined [] js d e apart = e
distinct_joined (i ∷ is) js d e apart = (
  (λ at. ⊎_elim (λ first. d.0 first) (λ second. apart i (inl refl) second) (in_either i is js at)),
  distinct_joined is js d.1 e (λ k at also. apart k (inr at) also),
)

-- ---- how many there can be

differs : (i j : ℕ) → ¬ (i ≡ j) → eqb i j ≡ false
differs i j other = false_from_ne_true (eqb i j) (λ same. other (eqb-true i j same))

all_differ : (i : ℕ) (is : List ℕ) → ¬ IsIn i is → AllByRecursion (λ j. eqb i j ≡ false) is
all_differ i [] out = tt
all_differ i (j ∷ is) out = (differs i j (λ same. out (inl same)), all_differ i is (λ at. out (inr at)))

as_distinct : (is : List ℕ) → AreDistinct is → IsDistinct eqb is
unfolding IsDistinct
as_distinct [] d = tt
as_distinct (i ∷ is) d = (all_differ i is d.0, as_distinct is d.1)

is_in : (k : ℕ) (is : List ℕ) → list_any (eqb k) is ≡ true → IsIn k is
is_in k [] e = absurd (false≢true e)
is_in k (i ∷ is) e = ⊎_elim (λ here. inl (eqb-true k i here)) (λ later. inr (is_in k is later))
    (or_cases (eqb k i) (list_any (eqb k) is) e)

-- different numbers below n are at most n
pub at_most : (is : List ℕ) (n : ℕ) → AreDistinct is → ((k : ℕ) → IsIn k is → k < n) → length is ≤ n
at_most is n d below = length-le_from_distinct_below is n (as_distinct is d) (λ k e. below k (is_in k is e))
