-- Points in strips of neighbours, where those of a strip are sorted by their heights.
use Rattle.std.specs.Prelude.{◌≡◌, ℕ, ◌/◌, ◌<◌, ◌≤◌, ℤ, pos, ◌≤ℤ◌, List, map, length}
use Rattle.std.specs.Prelude.{slice_index_or}
use Rattle.overlay_geom.specs.Plane.{Point}
use Rattle.overlay_pairs.specs.Extents.{Extent}
use Rattle.overlay_pairs.specs.Places.{IsAt}

-- the points in strips, `width` wide: those of each strip are sorted by their heights
pub record AreStripsOf (vs : List Point) (width : ℕ) (ps : List Point) : Type 0 where
  pub some : 0 < width
  pub count : length ps ≡ length vs
  pub given : (k : ℕ) (v : Point) → IsAt ps k v → (j : ℕ) × IsAt vs j v × (j / width ≡ k / width)
  pub all : (k : ℕ) (v : Point) → IsAt vs k v → (j : ℕ) × IsAt ps j v × (j / width ≡ k / width)
  pub heights : (j k : ℕ) (v w : Point) → j ≤ k → j / width ≡ k / width → IsAt ps j v → IsAt ps k w → v.y ≤ℤ w.y

-- the points at the places of the boxes
abbrev pub points_of : List Point → List Extent → List Point
points_of vs ss = map (λ (s : Extent). slice_index_or vs s.first (record { x = pos 0; y = pos 0 })) ss
