-- The first entry of a list, and the later entries.
use Rattle.std.proofs.Common.{◌≡◌, ◌⊎◌, inl, inr, ℕ, zero, suc, ◌<◌, List, [], ◌∷◌, length, drop, get_or, refl, ap}
use Rattle.std.proofs.Common.{arith}
use Rattle.std.specs.List.{Contains}

-- a list contains its first entry
pub Contains-head : {X : Type 0} (x : X) (xs : List X) → Contains (x ∷ xs) x
Contains-head x xs = (zero, omega arith, refl)

-- a list contains the items of its rest
pub Contains-later : {X : Type 0} (y : X) (xs : List X) (x : X) → Contains xs x → Contains (y ∷ xs) x
Contains-later y xs x c = (suc c.0, let h = c.1 in omega arith, c.2)

-- an entry of a list is its first, or one of the rest
pub Contains-cases : {X : Type 0} (y : X) (ys : List X) (z : X) → Contains (y ∷ ys) z → (y ≡ z) ⊎ Contains ys z
Contains-cases y ys z (zero, h, e) = inl e
Contains-cases y ys z (suc k, h, e) = inr (k, omega arith, e)

-- a list with a place has an entry
pub some_entry : {X : Type 0} (xs : List X) (k : ℕ) → k < length xs → X
some_entry [] k h = absurd (omega arith)
some_entry (x ∷ xs) k h = x

-- lists that are one have one first entry
pub same_head : {X : Type 0} (x y : X) (xs ys : List X) → x ∷ xs ≡ y ∷ ys → x ≡ y
same_head x y xs ys same = ap (λ zs. get_or zs 0 x) same

-- and one rest
pub same_tail : {X : Type 0} (x y : X) (xs ys : List X) → x ∷ xs ≡ y ∷ ys → xs ≡ ys
same_tail x y xs ys same = ap (drop 1) same
