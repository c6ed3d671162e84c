-- Steps of thinning a closed list: lists with equal thinned lists, and lists that are bent everywhere but at their two
-- ends.
use Rattle.std.specs.Prelude.{ℕ, ◌+◌, ◌<◌, List, ◌∷◌, ◌++◌, length}
use Rattle.overlay_geom.specs.Plane.{Point}
use Rattle.overlay_geom.specs.Thinned.{IsThinned, IsStraightAt}

-- whatever the second closed list is thinned to, the first is thinned to as well
pub record IsNarrowed (ps qs : List Point) : Type 0 where
  pub thins : (rs : List Point) → IsThinned qs rs → IsThinned ps rs

-- before the next point, and any rest, the first stack of points can be replaced by the second without a change of
-- thinning
abbrev pub IsNarrowedBefore : Point → List Point → List Point → Type 0
IsNarrowedBefore next ps qs = (rest : List Point) → IsNarrowed (ps ++ next ∷ rest) (qs ++ next ∷ rest)

-- no point but the first and the last is collinear with its two neighbours
pub record IsBentInside (ps : List Point) : Type 0 where
  pub bent : (k : ℕ) → 0 < k → k + 1 < length ps → ¬ (IsStraightAt ps k)
