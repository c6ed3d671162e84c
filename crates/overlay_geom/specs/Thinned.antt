-- Thinning: points of a closed list that are collinear with their neighbours, dropped one by one.
use Rattle.std.specs.Prelude.{◌≡◌, ℕ, ◌+◌, ◌-◌, ◌%◌, ◌<◌, Bool, MatchBool, pos, List, length, slice_index_or, remove}
use Rattle.overlay_geom.specs.Plane.{Point, cross_at}

-- the item at place k of a closed list, where the first follows the last; d stands for it in an empty list
abbrev pub item_round : {X : Type 0} → List X → X → ℕ → X
item_round xs d k = slice_index_or xs (k % length xs) d

-- the point at place k of a closed list
abbrev pub point_round : List Point → ℕ → Point
point_round ps k = item_round ps (record { x = pos 0; y = pos 0 }) k

-- the three points are collinear; if two are equal, they always are
abbrev pub IsOnOneLine : Point → Point → Point → Type 0
IsOnOneLine u v w = cross_at u v w ≡ pos 0

-- the point at place k is collinear with its two neighbours in the closed list
abbrev pub IsStraightAt : List Point → ℕ → Type 0
IsStraightAt ps k = IsOnOneLine (point_round ps (k + length ps - 1)) (point_round ps k) (point_round ps (k + 1))

-- the second closed list is a thinning of the first: points collinear with their two neighbours are dropped one by one,
-- until none is left
pub data IsThinned : List Point → List Point → Type 0 where
  thin : {ps : List Point} → ((k : ℕ) → k < length ps → ¬ (IsStraightAt ps k)) → IsThinned ps ps
  drop_one : {ps qs : List Point} (k : ℕ) → k < length ps → IsStraightAt ps k → IsThinned (remove ps k) qs →
      IsThinned ps qs

-- the list is taken as given where points are kept, else thinned
abbrev pub IsKeptOrThinned : Bool → List Point → List Point → Type 0
IsKeptOrThinned keep given taken = MatchBool keep (taken ≡ given) (IsThinned given taken)
