-- The edges through a point of the plane, and the windings on both sides of them.
use Rattle.std.specs.Prelude.{Bool, cond, ◌&&◌, ◌||◌, ℤ, pos, ◌+ℤ◌, ◌*ℤ◌, int_le, List}
use Rattle.std.specs.Ordering.{int_eq}
use Rattle.overlay_geom.specs.Edges.{CountedEdge, ends_of, winding_by}
use Rattle.overlay_geom.specs.Plane.{PlanePoint, Edge, side, total}

-- z lies between u and v, or is equal to one of them
abbrev pub is_amid : ℤ → ℤ → ℤ → Bool
is_amid z u v = (int_le u z && int_le z v) || (int_le v z && int_le z u)

-- p lies on the closed segment
abbrev pub is_on : Edge → PlanePoint → Bool
is_on e p = int_eq (side e p) (pos 0) && is_amid p.x (e.a.x *ℤ p.d) (e.b.x *ℤ p.d)
    && is_amid p.y (e.a.y *ℤ p.d) (e.b.y *ℤ p.d)

-- the sum of the counts of the edges through p
abbrev pub total_through : (CountedEdge → ℤ) → List CountedEdge → PlanePoint → ℤ
total_through count es p = total (λ e. cond (is_on (ends_of e) p) (count e) (pos 0)) es

-- the winding across the edges through p, where these lie along one line: the winding at p, which is that below them,
-- plus their counts
abbrev pub winding_over : (CountedEdge → ℤ) → List CountedEdge → PlanePoint → ℤ
winding_over count es p = winding_by count es p +ℤ total_through count es p
