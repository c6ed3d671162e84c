-- The cells of a grid, and the steps that run along its lines.
use Rattle.std.specs.Prelude.{◌≡◌, ◌⊎◌, ℤ, pos, ◌+ℤ◌, ◌*ℤ◌, ◌≤ℤ◌, List, All}
use Rattle.overlay_geom.specs.Plane.{Point, PlanePoint, Step, in_plane}
use Rattle.overlay_tiles.specs.Grids.{IsGridMultiple}
use Rattle.overlay_tiles.specs.Spans.{Bounds}

-- z / d lies from the m-th multiple of the step to the next one
pub record IsInStrip (step m z d : ℤ) : Type 0 where
  pub low : (m *ℤ step *ℤ d) ≤ℤ z
  pub high : z ≤ℤ ((m +ℤ pos 1) *ℤ step *ℤ d)

-- the point lies in the cell number m to the right and number n up, of cells of this width and height, or on its border
pub record IsInCell (wide high m n : ℤ) (p : PlanePoint) : Type 0 where
  pub x : IsInStrip wide m p.x p.d
  pub y : IsInStrip high n p.y p.d

-- all the points lie in one cell
pub record LieInOneCell (wide high : ℤ) (ps : List Point) : Type 0 where
  pub m : ℤ
  pub n : ℤ
  pub all : All (λ p. IsInCell wide high m n (in_plane p)) ps

-- the step runs along a line of the grid across the box: along an upright one, or a level one
abbrev pub RunsAlongGrid : ℤ → ℤ → Bounds → Step → Type 0
RunsAlongGrid wide high b s = (IsGridMultiple wide b.x s.from.x × (s.to.x ≡ s.from.x))
    ⊎ (IsGridMultiple high b.y s.from.y × (s.to.y ≡ s.from.y))
