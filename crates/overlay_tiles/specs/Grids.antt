-- The lines of a grid across the box of some points.
use Rattle.std.specs.Prelude.{◌≡◌, ◌⊎◌, ℕ, ◌≤◌, ℤ, pos, ◌*ℤ◌, ◌<ℤ◌, ◌≤ℤ◌, List, [], ◌∷◌, ◌++◌, map, length}
use Rattle.std.specs.Prelude.{All, AllPairs, Contains, Option, Some, None}
use Rattle.overlay_geom.specs.Numbers.{Within}
use Rattle.overlay_geom.specs.Plane.{Point}
use Rattle.overlay_tiles.specs.Spans.{Span, Bounds, IsBoxOf, plain_span}
use Rattle.overlay_tiles.specs.declared.span.IntBounds.{IntBounds}

-- the number is a multiple of the step strictly between the ends of the span
pub record IsGridMultiple (step : ℤ) (s : Span) (z : ℤ) : Type 0 where
  pub multiple : ℤ
  pub is : z ≡ multiple *ℤ step
  pub above : s.least <ℤ z
  pub below : z <ℤ s.greatest

-- the numbers are all of these, each once, in ascending order
pub record AreGridMultiples (step : ℤ) (s : Span) (multiples : List ℤ) : Type 0 where
  pub ascending : AllPairs (λ a b. a <ℤ b) multiples
  pub each : All (IsGridMultiple step s) multiples
  pub all : (z : ℤ) → IsGridMultiple step s z → Contains multiples z

-- there are at most 1,000 of them
pub record AreFewMultiples (step : ℤ) (s : Span) : Type 0 where
  pub multiples : List ℤ
  pub are : AreGridMultiples step s multiples
  pub few : length multiples ≤ 1000

-- the open line at this x from the bottom of the box to its top
abbrev pub upright : Bounds → ℤ → List Point
upright b x = record { x = x; y = b.y.least } ∷ record { x = x; y = b.y.greatest } ∷ []

-- the one at this y from its left to its right
abbrev pub level : Bounds → ℤ → List Point
level b y = record { x = b.x.least; y = y } ∷ record { x = b.x.greatest; y = y } ∷ []

-- the lines of the grid across the box: the upright ones, and then the level ones
pub record AreLinesAcross (width height : ℤ) (b : Bounds) (lines : List (List Point)) : Type 0 where
  pub xs : List ℤ
  pub ys : List ℤ
  pub at_xs : AreGridMultiples width b.x xs
  pub at_ys : AreGridMultiples height b.y ys
  pub are : lines ≡ map (upright b) xs ++ map (level b) ys

-- those across the box of the points; without points there is none
abbrev pub AreGridLines : ℤ → ℤ → List Point → List (List Point) → Type 0
AreGridLines width height ps lines = ((ps ≡ []) × (lines ≡ []))
    ⊎ ((b : Bounds) × IsBoxOf ps b × AreLinesAcross width height b lines)

-- a cell can be as wide, or as high: at least 1, and in range
pub record IsGridStep (limit : ℕ) (step : ℤ) : Type 0 where
  pub positive : pos 1 ≤ℤ step
  pub in_range : Within limit step

-- a grid of cells of this width and height may be laid across the points: it has at most 1,000 lines in each direction
pub record FitsGrid (limit : ℕ) (width height : ℤ) (ps : List Point) : Type 0 where
  pub width_fits : IsGridStep limit width
  pub height_fits : IsGridStep limit height
  pub few_uprights : (b : Bounds) → IsBoxOf ps b → AreFewMultiples width b.x
  pub few_levels : (b : Bounds) → IsBoxOf ps b → AreFewMultiples height b.y

-- few lines pass across the box, if there is one
abbrev pub HasFewLines : ℤ → ℤ → {I : Type 0} → (I → ℤ) → Option (IntBounds I) → Type 0
HasFewLines width height whole None = Unit {0}
HasFewLines width height whole (Some b) = AreFewMultiples width (plain_span whole b.x)
    × AreFewMultiples height (plain_span whole b.y)
