-- Sums of whole numbers over a list: of its front, of a part of it, and of the same elements in another order.
use Rattle.std.proofs.Common.{◌≡◌, ℕ, ◌+◌, ◌<◌, Bool, true, false, cond, not, ℤ, pos, ◌+ℤ◌, List, [], ◌∷◌, ◌++◌, map}
use Rattle.std.proofs.Common.{take, get_or, length, refl, sym, ap, ◌∙◌, arith}
use Rattle.std.specs.List.{filter, sum_by}
use Rattle.std.specs.List.Sorted.{IsPermutation}
use Rattle.std.proofs.lemmas.Int.{ints}
use Rattle.std.proofs.lemmas.List.Sums.{sum_by-cons}
use Rattle.std.proofs.lemmas.List.Sorted.{sum_by-IsPermutation}
use lib.IntN.{+ℤ_idl, +ℤ_idr, +ℤ_assoc}
use borrow.Author.Differences.{up, down}
use Rattle.overlay_geom.specs.Numbers.{Within}
use Rattle.overlay_geom.specs.Plane.{total}
use Rattle.overlay_geom.proofs.Mapped.{mapped_more}

-- the sum over two lists, one after the other
pub total-append : {X : Type 0} (f : X → ℤ) (xs ys : List X) → total f (xs ++ ys) ≡ total f xs +ℤ total f ys
total-append f [] ys = sym (+ℤ_idl (total f ys))
total-append f (x ∷ xs) ys = ap (λ z. f x +ℤ z) (total-append f xs ys) ∙ sym (+ℤ_assoc (f x) (total f xs) (total f ys))

-- the sum over one more item
pub total-more : {X Y : Type 0} (f : Y → ℤ) (h : X → Y) (xs : List X) (i : ℕ) (x : X) → i < length xs →
    x ≡ get_or xs i x → total f (map h (take (i + 1) xs)) ≡ total f (map h (take i xs)) +ℤ f (h x)
total-more f h xs i x lt is =
    ap (total f) (mapped_more h xs i x lt is)
    ∙ total-append f (map h (take i xs)) (h x ∷ [])
    ∙ ap (λ z. total f (map h (take i xs)) +ℤ z) (+ℤ_idr (f (h x)))

-- where each term is within a bound, the sum is within the sum of the bounds
pub total-within : {X : Type 0} (f : X → ℤ) (bound : X → ℕ) → ((x : X) → Within (bound x) (f x)) →
    (xs : List X) → Within (sum_by bound xs) (total f xs)
total-within f bound each [] = record { low = omega (arith, ints); high = omega (arith, ints) }
total-within f bound each (x ∷ xs) =
    let first = each x in
    let rest = total-within f bound each xs in
    let sum = sum_by-cons bound x xs in
    record { low = omega (arith, ints); high = omega (arith, ints) }

-- the sum of a part of the list is the sum over the list with 0 for the rest
pub total-filter : {X : Type 0} (p : X → Bool) (f : X → ℤ) (xs : List X) →
    total f (filter p xs) ≡ total (λ x. cond (p x) (f x) (pos 0)) xs
total-filter p f [] = refl
total-filter p f (x ∷ xs) =
    let e = total-filter p f xs in
    elim (p x) as (λ b. total f (cond b (x ∷ filter p xs) (filter p xs)) ≡ cond b (f x) (pos 0) +ℤ total
    (λ x. cond (p x) (f x) (pos 0)) xs) [
      | true ↦ ap (λ z. f x +ℤ z) e
      | false ↦ omega (arith, ints)
    ]

-- a list adds up to its two parts
pub total-parts : {X : Type 0} (f : X → ℤ) (p : X → Bool) (xs : List X) → total f xs ≡ total f (filter p xs) +ℤ total f
    (filter (λ x. not (p x)) xs)
total-parts f p [] = refl
total-parts f p (x ∷ xs) =
    let e = total-parts f p xs in
    elim (p x) as (λ b. f x +ℤ total f xs ≡ total f (cond b (x ∷ filter p xs) (filter p xs)) +ℤ total f
    (cond (not b) (x ∷ filter (λ x. not (p x)) xs) (filter (λ x. not (p x)) xs))) [
      | true ↦ omega (arith, ints)
      | false ↦ omega (arith, ints)
    ]

-- the sum is that of the positive parts minus that of the negative parts
pub total-difference : {X : Type 0} (f : X → ℤ) (xs : List X) → up (total f xs) + sum_by (λ x. down (f x)) xs ≡ down
    (total f xs) + sum_by (λ x. up (f x)) xs
total-difference f [] = refl
total-difference f (x ∷ xs) =
    let e = total-difference f xs in
    let u = sum_by-cons (λ x. up (f x)) x xs in
    let d = sum_by-cons (λ x. down (f x)) x xs in
    omega (arith, ints)

-- a permutation has an equal sum
pub total-IsPermutation : {X : Type 0} (f : X → ℤ) (xs ys : List X) → IsPermutation xs ys → total f ys ≡ total f xs
total-IsPermutation f xs ys h =
    let e = total-difference f xs in
    let g = total-difference f ys in
    let u = sum_by-IsPermutation (λ x. up (f x)) xs ys h in
    let d = sum_by-IsPermutation (λ x. down (f x)) xs ys h in
    omega (arith, ints)
