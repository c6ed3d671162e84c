-- The edges that a builder holds, as they are given one after another.
use Rattle.std.specs.Prelude.{List, [], ◌∷◌}
use Rattle.overlay_geom.specs.Plane.{Point}
use Rattle.overlay_geom.specs.declared.point.IntPoint.{IntPoint}
use Rattle.overlay_plane.specs.Carried.{Carried}
use Rattle.overlay_order.specs.declared.edge.CountedEdge.{CountedEdge as HeldEdge}

-- the two ends of an edge, the smaller one first
abbrev pub ends_held : {I C : Type 0} → HeldEdge I C → List (IntPoint I)
ends_held e = e.a ∷ e.b ∷ []

-- the same of what contracts see of the edge
abbrev pub ends_of_held : {C : Type 0} → Carried C → List Point
ends_of_held x = x.edge.a ∷ x.edge.b ∷ []
