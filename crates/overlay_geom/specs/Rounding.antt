-- Points of the plane rounded to whole points: to the nearest coordinates.
use Rattle.std.specs.Prelude.{◌≡◌, ℤ, pos, ◌+ℤ◌, ◌-ℤ◌, ◌*ℤ◌, ◌≤ℤ◌}
use Rattle.std.specs.Int.{int_div_euclid}
use Rattle.overlay_geom.specs.Plane.{Point, PlanePoint, SamePlace}

-- the whole number nearest to z / d, the greater of two equally near
abbrev pub nearest : ℤ → ℤ → ℤ
nearest z d = int_div_euclid (pos 2 *ℤ z +ℤ d) (pos 2 *ℤ d)

-- the whole point nearest to a point of the plane, in x and in y
abbrev pub nearest_point : PlanePoint → Point
nearest_point p = record { x = nearest p.x p.d; y = nearest p.y p.d }

-- the coordinate v is at most 1/2 away from z / d
abbrev pub IsWithinHalf : ℤ → ℤ → ℤ → Type 0
IsWithinHalf v z d = ((pos 2 *ℤ z -ℤ d) ≤ℤ (pos 2 *ℤ v *ℤ d)) × ((pos 2 *ℤ v *ℤ d) ≤ℤ (pos 2 *ℤ z +ℤ d))

-- equal points of the plane have equal whole points, at most 1/2 away in x and in y
pub record IsRounding (whole_at : PlanePoint → Point) : Type 0 where
  pub near_x : (p : PlanePoint) → IsWithinHalf (whole_at p).x p.x p.d
  pub near_y : (p : PlanePoint) → IsWithinHalf (whole_at p).y p.y p.d
  pub one : (p q : PlanePoint) → SamePlace p q → whole_at p ≡ whole_at q
