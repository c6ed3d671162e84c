-- The product of positive numbers, one for each entry of a list: each of them divides it.
use Rattle.std.proofs.Common.{◌≡◌, ⊎_elim, ℕ, zero, suc, ℤ, pos, negsuc, neg_ℤ, ◌*ℤ◌, ◌<ℤ◌, List, [], ◌∷◌, Contains}
use Rattle.std.proofs.Common.{refl, ap, ◌∙◌, arith}
use Rattle.std.proofs.lemmas.Int.{ints}
use Rattle.overlay_geom.proofs.Entries.{Contains-cases}
use Rattle.overlay_geom.proofs.Identities.{solve, number, ◌⊗◌, ⊝◌, ◌≗◌}
use Rattle.overlay_geom.proofs.Signs.{mul-pos}

-- the product of the numbers that f gives
abbrev pub product : {X : Type 0} → (X → ℤ) → List X → ℤ
product f [] = pos 1
product f (x ∷ xs) = f x *ℤ product f xs

-- it is positive where they are
pub product-pos : {X : Type 0} (f : X → ℤ) (xs : List X) → ((x : X) → pos 0 <ℤ f x) → pos 0 <ℤ product f xs
product-pos f [] each = record { lt = tt }
product-pos f (x ∷ xs) each = mul-pos (f x) (product f xs) (each x) (product-pos f xs each)

-- it is a multiple of each
pub multiple_of_each : {X : Type 0} (f : X → ℤ) (xs : List X) (x : X) → Contains xs x →
    (m : ℤ) × (product f xs ≡ f x *ℤ m)
multiple_of_each f [] x c = elim c.1 [ ]
multiple_of_each {X} f (y ∷ ys) x c = ⊎_elim
    (λ is. (product f ys, ap (λ (z : X). f z *ℤ product f ys) is))
    (λ later. let rest = multiple_of_each f ys x later in (
      f y *ℤ rest.0,
      ap (λ z. f y *ℤ z) rest.1 ∙ solve 3 (λ a b m. a ⊗ (b ⊗ m) ≗ b ⊗ (a ⊗ m)) tt (f y) (f x) rest.0,
    ))
    (Contains-cases y ys x c)

-- the size of a number, or 1 for 0
abbrev pub size_or_one : ℤ → ℤ
size_or_one (pos zero) = pos 1
size_or_one (pos (suc n)) = pos (suc n)
size_or_one (negsuc n) = pos (suc n)

pub size_or_one-pos : (z : ℤ) → pos 0 <ℤ size_or_one z
size_or_one-pos (pos zero) = record { lt = tt }
size_or_one-pos (pos (suc n)) = omega (arith, ints)
size_or_one-pos (negsuc n) = omega (arith, ints)

-- it is a multiple of a number other than 0
pub multiple_of_size : (z : ℤ) → ¬ (z ≡ pos 0) → (m : ℤ) × (size_or_one z ≡ z *ℤ m)
multiple_of_size (pos zero) some = absurd (some refl)
multiple_of_size (pos (suc n)) some = (pos 1, solve 1 (λ z. z ≗ z ⊗ number (pos 1)) tt (pos (suc n)))
multiple_of_size (negsuc n) some = (
  negsuc 0,
  turned n ∙ solve 1 (λ z. ⊝ z ≗ z ⊗ number (negsuc 0)) tt (negsuc n),
)
  where
    turned : (n : ℕ) → pos (suc n) ≡ neg_ℤ (negsuc n)
    turned n = refl
