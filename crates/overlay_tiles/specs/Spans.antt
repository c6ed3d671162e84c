-- The box of some points, as a span of x and one of y.
use Rattle.std.specs.Prelude.{◌≡◌, ℕ, ℤ, ◌≤ℤ◌, cond, int_lt, List, [], map, flat_map, All, Contains}
use Rattle.std.specs.Prelude.{Option, Some, None}
use Rattle.overlay_geom.specs.Numbers.{Within}
use Rattle.overlay_geom.specs.Plane.{Point}
use Rattle.overlay_tiles.specs.declared.span.IntBounds.{IntBounds}
use Rattle.overlay_tiles.specs.declared.span.IntSpan.{IntSpan}

-- the whole numbers from the least to the greatest one
pub record Span : Type 0 where
  pub least : ℤ
  pub greatest : ℤ

-- the points whose x and y are in these spans
pub record Bounds : Type 0 where
  pub x : Span
  pub y : Span

-- the span from the whole number of one coordinate to that of another
abbrev pub plain_span : {I : Type 0} → (I → ℤ) → IntSpan I → Span
plain_span whole s = record { least = whole s.least; greatest = whole s.greatest }

-- and the two of a box
abbrev pub plain_bounds : {I : Type 0} → (I → ℤ) → IntBounds I → Bounds
plain_bounds whole b = record { x = plain_span whole b.x; y = plain_span whole b.y }

-- the least span that has also this number in it
abbrev pub includes : Span → ℤ → Span
includes s z = cond (int_lt z s.least) (record { least = z; greatest = s.greatest })
    (cond (int_lt s.greatest z) (record { least = s.least; greatest = z }) s)

-- the number is in the span
pub record IsIn (s : Span) (z : ℤ) : Type 0 where
  pub low : s.least ≤ℤ z
  pub high : z ≤ℤ s.greatest

-- the span goes from the least of the numbers to the greatest one
pub record IsSpanOf (zs : List ℤ) (s : Span) : Type 0 where
  pub all : All (IsIn s) zs
  pub has_least : Contains zs s.least
  pub has_greatest : Contains zs s.greatest

-- the least box that has all points in it
pub record IsBoxOf (ps : List Point) (b : Bounds) : Type 0 where
  pub x : IsSpanOf (map (λ p. p.x) ps) b.x
  pub y : IsSpanOf (map (λ p. p.y) ps) b.y

-- that box, where there are points
abbrev pub IsBoxFound : {I : Type 0} → (I → ℤ) → List Point → Option (IntBounds I) → Type 0
IsBoxFound whole ps None = ps ≡ []
IsBoxFound whole ps (Some b) = IsBoxOf ps (plain_bounds whole b)

-- the points of all paths, one path after another
abbrev pub points_of_paths : List (List Point) → List Point
points_of_paths paths = flat_map (λ path. path) paths

-- both ends of both spans are in the coordinate range
pub record AreBoundsInRange (limit : ℕ) (b : Bounds) : Type 0 where
  pub x_least : Within limit b.x.least
  pub x_greatest : Within limit b.x.greatest
  pub y_least : Within limit b.y.least
  pub y_greatest : Within limit b.y.greatest
