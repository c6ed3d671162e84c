-- The entries of a part of a list.
use Rattle.std.proofs.Common.{◌≡◌, ⊎_elim, ℕ, ◌+◌, ◌-◌, ◌<◌, ◌≤◌, List, length, take, drop, slice_range, get_or, sym}
use Rattle.std.proofs.Common.{ap, ◌∙◌, arith}
use Rattle.std.proofs.lemmas.Bool.{cases_lt}
use Rattle.std.proofs.lemmas.List.{length-drop, length-take-le, take_all, get_or-take, get_or-drop}
use Rattle.overlay_pairs.specs.Places.{IsAt}

-- number of the first entries of a list, or of all
length_first : {X : Type 0} (n k : ℕ) (xs : List X) → k < length (take n xs) → (k < n) × (k < length xs)
length_first n k xs less = ⊎_elim
    (λ (more : length xs < n).
    let same = ap length (take_all n xs (omega (arith, more))) in
    (omega (arith, less, same, more), omega (arith, less, same)))
    (λ (le : n ≤ length xs).
    let same = length-take-le n xs le in
    (omega (arith, less, same), omega (arith, less, same, le)))
    (cases_lt (length xs) n)

first_of_length : {X : Type 0} (n k : ℕ) (xs : List X) → k < n → k < length xs → k < length (take n xs)
first_of_length n k xs few less = ⊎_elim
    (λ (more : length xs < n). let same = ap length (take_all n xs (omega (arith, more))) in omega (arith, less, same))
    (λ (le : n ≤ length xs). let same = length-take-le n xs le in omega (arith, few, same))
    (cases_lt (length xs) n)

-- an entry of the part stands in the list
pub at_of_range : {X : Type 0} (xs : List X) (s t k : ℕ) (x : X) → IsAt (slice_range xs s t) k x →
    ((s + k) < t) × IsAt xs (s + k) x
at_of_range xs s t k x (within, is) =
    let both = length_first (t - s) k (drop s xs) within in
    let few = both.0 in
    let less = both.1 in
    let rest = length-drop s xs in (
      omega (arith, few),
      (
        omega (arith, less, rest),
        sym (get_or-drop s xs k x) ∙ sym (get_or-take (t - s) (drop s xs) k x few) ∙ is,
      ),
    )

-- and an entry between its ends stands in the part
pub in_range : {X : Type 0} (xs : List X) (s t k : ℕ) (x : X) → s ≤ k → k < t → IsAt xs k x →
    IsAt (slice_range xs s t) (k - s) x
in_range xs s t k x after before (within, is) =
    let rest = length-drop s xs in
    let few : (k - s) < (t - s) = omega (arith, after, before) in
    let back : s + (k - s) ≡ k = omega (arith, after) in (
      first_of_length (t - s) (k - s) (drop s xs) few (omega (arith, within, rest, after)),
      get_or-take (t - s) (drop s xs) (k - s) x few ∙ get_or-drop s xs (k - s) x ∙ ap (λ n. get_or xs n x) back ∙ is,
    )
