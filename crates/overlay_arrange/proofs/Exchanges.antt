-- A relation of lists that goes through equal lists, longer ones and exchanges of the first two items: it holds of a
-- list and each other order of it.
use Rattle.std.proofs.Common.{ℕ, zero, suc, ◌<◌, List, [], ◌∷◌, get_or, set, length, subst, arith}
use Rattle.std.specs.List.{swap}
use Rattle.std.specs.List.Sorted.{IsPermutation}
use Rattle.std.proofs.lemmas.List.Edits.{swap_is}
use Rattle.std.proofs.lemmas.List.Sorted.{IsPermutation-keeps}

-- the relation is kept by these steps
pub record IsOfOrders {X : Type 0} (R : List X → List X → Type 0) : Type 0 where
  pub same : (xs : List X) → R xs xs
  pub on : (xs ys zs : List X) → R xs ys → R ys zs → R xs zs
  pub behind : (x : X) (xs ys : List X) → R xs ys → R (x ∷ xs) (x ∷ ys)
  pub turned : (x y : X) (xs : List X) → R (x ∷ y ∷ xs) (y ∷ x ∷ xs)

module _ {X : Type 0} (R : List X → List X → Type 0) (is : IsOfOrders R) where
  -- with the first item and a later one exchanged
  first : (x d : X) (xs : List X) (k : ℕ) → k < length xs → R (x ∷ xs) (get_or xs k d ∷ set xs k x)
  first x d [] k within = absurd (omega arith)
  first x d (y ∷ xs) zero within = is.turned x y xs
  first x d (y ∷ xs) (suc k) within =
      is.on _ _ _ (is.turned x y xs)
      (is.on _ _ _ (is.behind y (x ∷ xs) (get_or xs k d ∷ set xs k x) (first x d xs k (omega arith)))
      (is.turned y (get_or xs k d) (set xs k x)))

  -- with any two items exchanged
  swapped : (d : X) (xs : List X) (i j : ℕ) → i < length xs → j < length xs →
      R xs (set (set xs i (get_or xs j d)) j (get_or xs i d))
  swapped d [] i j before within = absurd (omega arith)
  swapped d (x ∷ xs) zero zero before within = is.same (x ∷ xs)
  swapped d (x ∷ xs) zero (suc j) before within = first x d xs j (omega arith)
  swapped d (x ∷ xs) (suc i) zero before within = first x d xs i (omega arith)
  swapped d (x ∷ xs) (suc i) (suc j) before within =
      is.behind x xs (set (set xs i (get_or xs j d)) j (get_or xs i d))
      (swapped d xs i j (omega arith) (omega arith))

  -- in any other order
  pub of_orders : (xs ys : List X) → IsPermutation xs ys → R xs ys
  of_orders xs ys = IsPermutation-keeps xs (R xs) (is.same xs) (λ l i j at to h. is.on _ _ _ h (step l i j at to)) ys
    where
      step : (l : List X) (i j : ℕ) → i < length l → j < length l → R l (swap l i j)
      step [] i j at to = absurd (omega arith)
      step (d ∷ l) i j at to = subst (R (d ∷ l)) (swap_is (d ∷ l) i j d at to) (swapped d (d ∷ l) i j at to)
