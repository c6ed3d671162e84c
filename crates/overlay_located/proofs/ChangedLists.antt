-- Facts of all items of a list that gets one item more or another item.
use Rattle.std.proofs.Common.{◌≡◌, ⊎_elim, ℕ, ◌<◌, ◌≤◌, List, [], ◌∷◌, ◌++◌, All, length, get_or, set, refl, sym, subst}
use Rattle.std.proofs.lemmas.Bool.{cases_lt}
use Rattle.std.proofs.lemmas.List.Elements.{All-push, All-set}

-- a fact of all items of a list, and of one more
pub All-pushed : {X : Type 0} (P : X → Type 0) (xs ys : List X) (x : X) → ys ≡ xs ++ x ∷ [] → All P xs → P x → All P ys
All-pushed P xs ys x is before here = subst (All P) (sym is) (All-push P xs x before here)

-- so of the items as they are read
pub All-pushed_as : {X Y : Type 0} (P : Y → Type 0) (f : X → Y) (xs ys : List X) (x : X) → ys ≡ xs ++ x ∷ [] →
    All (λ z. P (f z)) xs → ((y : Y) → y ≡ f x → P y) → All (λ z. P (f z)) ys
All-pushed_as P f xs ys x is before here = All-pushed (λ z. P (f z)) xs ys x is before (here (f x) refl)

-- a fact of all items, and of one that is written to a place, if the list has that
pub All-written : {X : Type 0} (P : X → Type 0) (xs ys : List X) (n : ℕ) (x : X) → (n < length xs → ys ≡ set xs n x) →
    (length xs ≤ n → ys ≡ xs) → All P xs → P x → All P ys
All-written P xs ys n x within beyond before here = ⊎_elim
    (λ (lt : n < length xs). subst (All P) (sym (within lt)) (All-set P xs n x here before))
    (λ (le : length xs ≤ n). subst (All P) (sym (beyond le)) before) (cases_lt n (length xs))

-- a fact of all items holds of that at a place
pub All-at : {X : Type 0} (P : X → Type 0) (xs : List X) (n : ℕ) (x : X) → n < length xs → x ≡ get_or xs n x →
    All P xs → P x
All-at P xs n x lt is all = subst P (sym is) (all n x lt)
