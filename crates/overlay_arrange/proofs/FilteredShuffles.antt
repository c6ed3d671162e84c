-- A list in another order, of which a test lets some items pass: those are in another order too.
use Rattle.std.proofs.Common.{Bool, true, false, cond, List, ◌∷◌, refl, arith}
use Rattle.std.specs.List.{filter}
use Rattle.std.specs.List.Sorted.{IsPermutation}
use Rattle.std.proofs.lemmas.List.Sorted.{IsPermutation-refl, IsPermutation-cons}
use Rattle.std.proofs.lemmas.List.Sorted.{IsPermutation-swap, IsPermutation-trans}
use Rattle.overlay_arrange.proofs.Exchanges.{of_orders}

module _ {X : Type 0} (p : X → Bool) where
  -- what passes in the second list is what passes in the first, in another order
  abbrev PassAlike : List X → List X → Type 0
  PassAlike xs ys = IsPermutation (filter p xs) (filter p ys)

  -- with a further item in front
  alike_cons : (x : X) (xs ys : List X) → PassAlike xs ys → PassAlike (x ∷ xs) (x ∷ ys)
  alike_cons x xs ys h = by (p x)
    where
      by : (b : Bool) → IsPermutation (cond b (x ∷ filter p xs) (filter p xs)) (cond b (x ∷ filter p ys) (filter p ys))
      by true = IsPermutation-cons x (filter p xs) (filter p ys) h
      by false = h

  -- with the first two items exchanged
  alike_turned : (x y : X) (xs : List X) → PassAlike (x ∷ y ∷ xs) (y ∷ x ∷ xs)
  alike_turned x y xs = by (p x) (p y)
    where
      rest : List X
      rest = filter p xs

      by : (b c : Bool) → IsPermutation (cond b (x ∷ cond c (y ∷ rest) rest) (cond c (y ∷ rest) rest))
          (cond c (y ∷ cond b (x ∷ rest) rest) (cond b (x ∷ rest) rest))
      by true true = IsPermutation-swap (x ∷ y ∷ rest) (y ∷ x ∷ rest) 0 1 (omega arith) (omega arith) refl
      by true false = IsPermutation-refl (x ∷ rest)
      by false true = IsPermutation-refl (y ∷ rest)
      by false false = IsPermutation-refl rest

  -- in any other order
  pub IsPermutation-filter : (xs ys : List X) → IsPermutation xs ys → IsPermutation (filter p xs) (filter p ys)
  IsPermutation-filter = of_orders PassAlike (record {
    same = λ xs. IsPermutation-refl (filter p xs);
    on = λ xs ys zs first later. IsPermutation-trans _ _ _ first later;
    behind = alike_cons;
    turned = alike_turned;
  })
