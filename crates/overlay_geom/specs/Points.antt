-- The program's points as whole points, points in the coordinate range, and the vectors between them.
use Rattle.std.specs.Prelude.{◌≡◌, ℕ, ◌*◌, ℤ, ◌-ℤ◌, ◌*ℤ◌, List, map, All}
use Rattle.overlay_geom.specs.Numbers.{Within}
use Rattle.overlay_geom.specs.Plane.{Point}
use Rattle.overlay_geom.specs.declared.point.IntPoint.{IntPoint}
use Rattle.overlay_geom.specs.declared.vector.IntVector.{IntVector}

-- the whole point with the numbers of the coordinates
abbrev pub plain_point : {I : Type 0} → (I → ℤ) → IntPoint I → Point
plain_point whole p = record { x = whole p.x; y = whole p.y }

-- the whole points of a list
abbrev pub plain_points : {I : Type 0} → (I → ℤ) → List (IntPoint I) → List Point
plain_points whole ps = map (plain_point whole) ps

-- a vector as the whole point to which it leads from (0, 0)
abbrev pub plain_way : {I : Type 0} → (I → ℤ) → IntVector I → Point
plain_way whole v = record { x = whole v.x; y = whole v.y }

-- both coordinates are at most the limit away from 0
pub record InRange (limit : ℕ) (p : Point) : Type 0 where
  pub x : Within limit p.x
  pub y : Within limit p.y

-- every point is in the coordinate range
abbrev pub AllInRange : ℕ → List Point → Type 0
AllInRange limit ps = All (InRange limit) ps

-- the cross product of two vectors
abbrev pub cross_of : Point → Point → ℤ
cross_of u v = u.x *ℤ v.y -ℤ u.y *ℤ v.x

-- v leads from q to p, both in range
pub record IsDifference (limit : ℕ) (p q v : Point) : Type 0 where
  pub x : v.x ≡ p.x -ℤ q.x
  pub y : v.y ≡ p.y -ℤ q.y
  pub fits : InRange (2 * limit) v
