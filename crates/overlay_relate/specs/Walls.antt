-- The vertical edges of a contour, and the right ends of its other edges.
use Rattle.std.specs.Prelude.{◌≡◌, Bool, false, cond, not, List, map, AllPairs, Any}
use Rattle.std.specs.List.Sorted.{IsPermutation}
use Rattle.overlay_geom.specs.Plane.{Point, Edge, point_lt, edge_lt}
use Rattle.overlay_relate.specs.Sweeps.{is_wide, AreOfContour}

-- the edge, if it is vertical, else its right end
abbrev pub wall_of : Edge → Edge
wall_of e = cond (is_wide e) (record { a = e.b; b = e.b }) e

-- they are the walls of the edges, by their lower ends and then by their upper ones
pub record AreWalls (es ws : List Edge) : Type 0 where
  pub same : IsPermutation (map wall_of es) ws
  pub order : AllPairs (λ v w. edge_lt w v ≡ false) ws

-- they are those of a resolved contour
pub record AreContourWalls (ws : List Edge) : Type 0 where
  pub edges : List Edge
  pub contour : AreOfContour edges
  pub walls : AreWalls edges ws

-- the wall starts at p or before it
abbrev pub starts_up_to : Point → Edge → Bool
starts_up_to p w = not (point_lt p w.a)

-- p is on one of the walls
abbrev pub IsOnSomeWall : List Edge → Point → Type 0
IsOnSomeWall ws p = Any (λ w. (point_lt p w.a ≡ false) × (point_lt w.b p ≡ false)) ws
