-- Items of a list with their places in it.
use Rattle.std.specs.Prelude.{◌≡◌, ℕ, suc, ◌<◌, List, [], ◌∷◌, map, length, slice_index_or, All, Contains}

-- an item, and its place in a list
pub record Numbered (X : Type 0) : Type 0 where
  pub item : X
  pub place : ℕ

-- the items with their places, counted from n
abbrev pub numbered : {X : Type 0} → ℕ → List X → List (Numbered X)
numbered n [] = []
numbered n (x ∷ xs) = record { item = x; place = n } ∷ numbered (suc n) xs

-- the numbered items are those of the list, each with its place, in any order
pub record AreNumbered {X : Type 0} (xs : List X) (ns : List (Numbered X)) : Type 0 where
  pub from : All (λ n. (n.place < length xs) × (slice_index_or xs n.place n.item ≡ n.item)) ns
  pub all : (k : ℕ) → k < length xs → Contains (map (λ n. n.place) ns) k
