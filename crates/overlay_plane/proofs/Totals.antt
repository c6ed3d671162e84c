-- Sums over the entries of a list: equal entry by entry, of sums and of differences.
use Rattle.std.proofs.Common.{◌≡◌, ℤ, pos, ◌+ℤ◌, ◌-ℤ◌, List, [], ◌∷◌, Contains, refl, ap, ap₂, ◌∙◌}
use Rattle.overlay_geom.specs.Plane.{total}
pub use Rattle.overlay_geom.proofs.Entries.{Contains-head, Contains-later}
use Rattle.overlay_geom.proofs.Identities.{solve, ◌⊕◌, ◌⊖◌, ◌≗◌}
pub use Rattle.overlay_geom.proofs.Totals.{total-filter}

-- sums whose terms are equal entry by entry
pub total-same : {X : Type 0} (f g : X → ℤ) (xs : List X) → ((x : X) → Contains xs x → f x ≡ g x) →
    total f xs ≡ total g xs
total-same f g [] h = refl
total-same f g (x ∷ xs) h = ap₂ (λ a b. a +ℤ b) (h x (Contains-head x xs))
    (total-same f g xs (λ y c. h y (Contains-later x xs y c)))

-- sums of nothing but 0
pub total-zero : {X : Type 0} (f : X → ℤ) (xs : List X) → ((x : X) → Contains xs x → f x ≡ pos 0) → total f xs ≡ pos 0
total-zero f [] h = refl
total-zero f (x ∷ xs) h = ap₂ (λ a b. a +ℤ b) (h x (Contains-head x xs))
    (total-zero f xs (λ y c. h y (Contains-later x xs y c)))

-- the sum of sums
pub total-add : {X : Type 0} (f g : X → ℤ) (xs : List X) → total (λ x. f x +ℤ g x) xs ≡ total f xs +ℤ total g xs
total-add f g [] = refl
total-add f g (x ∷ xs) = ap (λ z. (f x +ℤ g x) +ℤ z) (total-add f g xs)
    ∙ solve 4 (λ a b c d. (a ⊕ b) ⊕ (c ⊕ d) ≗ (a ⊕ c) ⊕ (b ⊕ d)) tt (f x) (g x) (total f xs) (total g xs)

-- the sum of differences
pub total-sub : {X : Type 0} (f g : X → ℤ) (xs : List X) → total (λ x. f x -ℤ g x) xs ≡ total f xs -ℤ total g xs
total-sub f g [] = refl
total-sub f g (x ∷ xs) = ap (λ z. (f x -ℤ g x) +ℤ z) (total-sub f g xs)
    ∙ solve 4 (λ a b c d. (a ⊖ b) ⊕ (c ⊖ d) ≗ (a ⊕ c) ⊖ (b ⊕ d)) tt (f x) (g x) (total f xs) (total g xs)
