-- The parts between separators, when the place of the first separator is known.
use Rattle.std.proofs.Common.{◌≡◌, ℕ, ◌+◌, ◌-◌, ◌<◌, Bool, List, [], ◌∷◌, length, take, drop, subst, sym, ap, ◌∙◌}
use Rattle.std.proofs.Common.{arith}
use Rattle.std.specs.List.{slice_split, position_or_len}
use Rattle.std.proofs.lemmas.List.{take_rest}
use Rattle.std.proofs.lemmas.List.Sums.{fails_before_first}
use Rattle.std.proofs.lemmas.List.Splits.{slice_split_none, slice_split_first}

-- without a separator there is one part
pub one_part : {X : Type 0} (p : X → Bool) (xs : List X) → position_or_len p xs ≡ length xs → slice_split p xs ≡ xs ∷ []
one_part p xs e = slice_split_none p xs (λ k d h. fails_before_first p xs k d (omega arith))

-- the first part ends at the first separator, and the others are those of what follows it
pub first_part : {X : Type 0} (p : X → Bool) (xs : List X) (d : X) (i : ℕ) → position_or_len p xs ≡ i → i < length xs
    → slice_split p xs ≡ take i xs ∷ slice_split p (take (length xs - (i + 1)) (drop (i + 1) xs))
first_part p xs d i e h =
    let first = subst (λ j. slice_split p xs ≡ take j xs ∷ slice_split p (drop (j + 1) xs)) e
    (slice_split_first p xs d (omega arith)) in
    first ∙ ap (λ rest. take i xs ∷ slice_split p rest) (sym (take_rest xs (i + 1)))
