-- Flat lists: paths as ranges of points, and shapes as ranges of paths.
use Rattle.std.specs.Prelude.{ℕ, ◌+◌, ◌≤◌, ℤ, List, [], ◌∷◌, map, All, length, slice_range, if◌then◌else◌, leb, ◌&&◌}
use Rattle.std.specs.declared.ops.Range.{Range}
use Rattle.overlay_geom.specs.Plane.{Point}
use Rattle.overlay_geom.specs.Points.{plain_points}
use Rattle.overlay_geom.specs.declared.point.IntPoint.{IntPoint}

-- the empty range
abbrev pub no_range : Range ℕ
no_range = record { start = 0; end = 0 }

-- the range itself if it is inside a list of this length, else the empty range
abbrev pub range_within : ℕ → Range ℕ → Range ℕ
range_within n r = if leb r.start r.end && leb r.end n then r else no_range

-- the items in a range, or none if the range is not inside the list
abbrev pub part_in : {X : Type 0} → List X → Range ℕ → List X
part_in xs r = slice_range xs (range_within (length xs) r).start (range_within (length xs) r).end

-- the first of several ranges, or the empty range if there is none
abbrev pub first_range : List (Range ℕ) → Range ℕ
first_range [] = no_range
first_range (r ∷ rs) = r

-- the range of the items of ys behind those of xs
abbrev pub range_behind : {X : Type 0} → List X → List X → Range ℕ
range_behind xs ys = record { start = length xs; end = length xs + length ys }

-- the whole points of each range
abbrev pub paths_in : {I : Type 0} → (I → ℤ) → List (IntPoint I) → List (Range ℕ) → List (List Point)
paths_in whole points ranges = map (λ r. plain_points whole (part_in points r)) ranges

-- the paths of each range of ranges
abbrev pub shapes_in : {I : Type 0} → (I → ℤ) → List (IntPoint I) → List (Range ℕ) → List (Range ℕ)
    → List (List (List Point))
shapes_in whole points contours shapes = map (λ s. paths_in whole points (part_in contours s)) shapes

-- the range is inside a list of this length
pub record IsInside (n : ℕ) (r : Range ℕ) : Type 0 where
  pub rises : r.start ≤ r.end
  pub ends : r.end ≤ n

-- each of several ranges is inside a list of this length
abbrev pub AreInside : ℕ → List (Range ℕ) → Type 0
AreInside n rs = All (IsInside n) rs
