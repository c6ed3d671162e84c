-- Edges of a graph without what they carry.
use Rattle.std.specs.Prelude.{ℤ}
use Rattle.overlay_geom.specs.Plane.{Edge}
use Rattle.overlay_geom.specs.Points.{plain_point}
use Rattle.overlay_order.specs.declared.vector.DataVectorEdge.{DataVectorEdge}

-- the ends of an edge at its numbers
abbrev pub plain_ends : {I C : Type 0} → (I → ℤ) → DataVectorEdge I C → Edge
plain_ends whole v = record { a = plain_point whole v.a; b = plain_point whole v.b }
