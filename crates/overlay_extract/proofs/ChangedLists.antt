-- Lists whose entries are changed in place, one after another, and mapped lists in the opposite order.
use Rattle.std.proofs.Common.{◌≡◌, ◌≤◌, ◌<◌, ℕ, zero, suc, List, [], ◌∷◌, ◌++◌, map, take, drop}
use Rattle.std.proofs.Common.{length, set, get_or, refl, ap, arith}
pub use Rattle.overlay_geom.proofs.Mapped.{map-reverse}

module _ {X : Type 0} (f : X → X) where
  -- the first entries are changed, so many
  abbrev pub changed : ℕ → List X → List X
  changed i xs = map f (take i xs) ++ drop i xs

  -- none is left out
  pub length-changed : (i : ℕ) (xs : List X) → length (changed i xs) ≡ length xs
  length-changed zero xs = refl
  length-changed (suc i) [] = refl
  length-changed (suc i) (x ∷ xs) = ap suc (length-changed i xs)

  -- the next entry is as it was
  pub read_changed : (i : ℕ) (xs : List X) (d : X) → get_or (changed i xs) i d ≡ get_or xs i d
  read_changed zero xs d = refl
  read_changed (suc i) [] d = refl
  read_changed (suc i) (x ∷ xs) d = read_changed i xs d

  -- with it changed one more is
  pub changed_more : (i : ℕ) (xs : List X) (d : X) → i < length xs →
      set (changed i xs) i (f (get_or xs i d)) ≡ changed (suc i) xs
  changed_more i [] d inside = absurd (omega arith)
  changed_more zero (x ∷ xs) d inside = refl
  changed_more (suc i) (x ∷ xs) d inside = ap (λ ys. f x ∷ ys) (changed_more i xs d (omega arith))

  -- and at the end all are
  pub changed_all : (i : ℕ) (xs : List X) → length xs ≤ i → changed i xs ≡ map f xs
  changed_all zero [] past = refl
  changed_all zero (x ∷ xs) past = absurd (omega arith)
  changed_all (suc i) [] past = refl
  changed_all (suc i) (x ∷ xs) past = ap (λ ys. f x ∷ ys) (changed_all i xs (omega arith))
