-- The edges of contours, and resolved contours: edges at different places meet in ends alone.
use Rattle.std.specs.Prelude.{◌≡◌, true, cond, ℕ, ℤ, List, map, AllPairs}
use Rattle.std.specs.declared.cmp.Ordering.{Ordering}
use Rattle.std.specs.declared.cmp.Ordering.TheVariants.{Less, Equal, Greater}
use Rattle.overlay_geom.specs.Plane.{Point, Edge, point_lt, edge_of, steps_between, steps_through, steps_of}
use Rattle.overlay_geom.specs.Points.{plain_point, InRange}
use Rattle.overlay_geom.specs.Placed.{IsAlong, IsBeside, IsAcross}
use Rattle.overlay_geom.specs.Settled.{MeetInEnds}
use Rattle.overlay_geom.specs.declared.edge.IntEdge.{IntEdge}
use Rattle.overlay_geom.specs.declared.edge_pair.Place.{Place}
use Rattle.overlay_geom.specs.declared.edge_pair.Place.TheVariants.{Along, Beside, Across}

-- the comparison of two points: by x, then by y
abbrev pub point_cmp : Point → Point → Ordering
point_cmp p q = cond (point_lt p q) Less (cond (point_lt q p) Greater Equal)

-- the edge between the whole points at an edge's ends
abbrev pub plain_edge : {I : Type 0} → (I → ℤ) → IntEdge I → Edge
plain_edge whole e = record { a = plain_point whole e.a; b = plain_point whole e.b }

-- the edges between whole points of a list of edges
abbrev pub plain_edges : {I : Type 0} → (I → ℤ) → List (IntEdge I) → List Edge
plain_edges whole es = map (plain_edge whole) es

-- the edge runs from its smaller to its larger end, both in the coordinate range
pub record IsLongEdge (limit : ℕ) (e : Edge) : Type 0 where
  pub forward : point_lt e.a e.b ≡ true
  pub a_in_range : InRange limit e.a
  pub b_in_range : InRange limit e.b

-- f has this position relative to e's line
abbrev pub IsPlaced : Place → Edge → Edge → Type 0
IsPlaced Along e f = IsAlong e f
IsPlaced Beside e f = IsBeside e f
IsPlaced Across e f = IsAcross e f

-- the edge between two points, or none if they are equal
abbrev pub edges_between : Point → Point → List Edge
edges_between p q = map edge_of (steps_between p q)

-- the edges from p through the points in order
abbrev pub edges_through : Point → List Point → List Edge
edges_through p qs = map edge_of (steps_through p qs)

-- the edges of a contour: from each point to the next, and from the last to the first
abbrev pub edges_of : List Point → List Edge
edges_of ps = map edge_of (steps_of ps)

-- any two of the edges, at different places of the list, meet in ends alone
abbrev pub AreApart : List Edge → Type 0
AreApart es = AllPairs MeetInEnds es

-- two different steps of the contour share only points that are ends of both
abbrev pub IsResolved : List Point → Type 0
IsResolved ps = AreApart (edges_of ps)
