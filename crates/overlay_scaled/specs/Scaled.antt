-- Lists of edges scaled by a whole number: both coordinates of each end multiplied, the counts kept.
use Rattle.std.specs.Prelude.{◌≡◌, ℤ, ◌*ℤ◌, List, map}
use Rattle.overlay_geom.specs.Edges.{CountedEdge}
use Rattle.overlay_geom.specs.Plane.{Point, PlanePoint}

-- the whole point n times as far from (0, 0)
abbrev pub scaled_point : ℤ → Point → Point
scaled_point n v = record { x = n *ℤ v.x; y = n *ℤ v.y }

-- the edge between the scaled ends, with the counts of the edge
abbrev pub scaled_edge : ℤ → CountedEdge → CountedEdge
scaled_edge n e = record { a = scaled_point n e.a; b = scaled_point n e.b; counts = e.counts }

-- the scaled edges of a list
abbrev pub scaled : ℤ → List CountedEdge → List CountedEdge
scaled n es = map (scaled_edge n) es

-- q lies n times as far from (0, 0) as p, in the direction of p
abbrev pub IsTimes : ℤ → PlanePoint → PlanePoint → Type 0
IsTimes n p q = (q.x *ℤ p.d ≡ n *ℤ (p.x *ℤ q.d)) × (q.y *ℤ p.d ≡ n *ℤ (p.y *ℤ q.d))
