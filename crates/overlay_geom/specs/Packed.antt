-- Lists packed one after another in a list, without gaps.
use Rattle.std.specs.Prelude.{ℕ, ◌≤◌, List, [], ◌∷◌, length}
use Rattle.std.specs.declared.ops.Range.{Range}

-- the ranges follow each other from a place up to an end, each from the end of the range before
pub data AreBehind : ℕ → List (Range ℕ) → ℕ → Type 0 where
  no_range : {n : ℕ} → AreBehind n [] n
  next : {r : Range ℕ} {rs : List (Range ℕ)} {end : ℕ} → r.start ≤ r.end → AreBehind r.end rs end →
      AreBehind r.start (r ∷ rs) end

-- the ranges cover all items of the list, in their order, each item in one range
abbrev pub IsPacked : {X : Type 0} → List X → List (Range ℕ) → Type 0
IsPacked items ranges = AreBehind 0 ranges (length items)
