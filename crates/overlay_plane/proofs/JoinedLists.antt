-- Sums over lists that are joined, mapped, or made of a part for each entry, sums of multiples, and multiples that are
-- taken or not.
use Rattle.std.proofs.Common.{◌≡◌, Bool, true, false, cond, ℤ, pos, ◌+ℤ◌, ◌*ℤ◌, List, [], ◌∷◌, map, refl, sym, ap, ◌∙◌}
use Rattle.std.specs.List.{flat_map}
use lib.IntN.{*ℤ_comm, *ℤ-zero}
use Rattle.overlay_geom.specs.Plane.{total}
use Rattle.overlay_geom.proofs.Products.{mul-add}
pub use Rattle.overlay_geom.proofs.Totals.{total-append}

-- the sum of a mapped list is the sum over the mapped entries
pub total-map : {X Y : Type 0} (f : Y → ℤ) (h : X → Y) (xs : List X) → total f (map h xs) ≡ total (λ x. f (h x)) xs
total-map f h [] = refl
total-map f h (x ∷ xs) = ap (λ z. f (h x) +ℤ z) (total-map f h xs)

-- a list made of parts adds up the parts
pub total-flat_map : {X Y : Type 0} (f : Y → ℤ) (h : X → List Y) (xs : List X) →
    total f (flat_map h xs) ≡ total (λ x. total f (h x)) xs
total-flat_map f h [] = refl
total-flat_map f h (x ∷ xs) = total-append f (h x) (flat_map h xs)
    ∙ ap (λ z. total f (h x) +ℤ z) (total-flat_map f h xs)

-- multiples add up to the multiple
pub total-times : {X : Type 0} (k : ℤ) (f : X → ℤ) (xs : List X) → total (λ x. k *ℤ f x) xs ≡ k *ℤ total f xs
total-times k f [] = sym (*ℤ-zero k)
total-times k f (x ∷ xs) = ap (λ z. k *ℤ f x +ℤ z) (total-times k f xs) ∙ sym (mul-add k (f x) (total f xs))

-- a multiple of a number that is taken or not is taken or not
pub times_taken : (b : Bool) (k z : ℤ) → k *ℤ cond b z (pos 0) ≡ cond b (k *ℤ z) (pos 0)
times_taken true k z = refl
times_taken false k z = *ℤ-zero k

-- a product that is taken or not has a second factor that is taken or not
pub taken_out : (b : Bool) (s c : ℤ) → cond b (s *ℤ c) (pos 0) ≡ c *ℤ cond b s (pos 0)
taken_out true s c = *ℤ_comm s c
taken_out false s c = sym (*ℤ-zero c)

-- nothing is taken where nothing is there to take
pub nothing_taken : (b : Bool) → cond b (pos 0) (pos 0) ≡ pos 0
nothing_taken true = refl
nothing_taken false = refl
