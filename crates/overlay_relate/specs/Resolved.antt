-- The edges of a contour's steps, each counted once.
use Rattle.std.specs.Prelude.{ℤ, List}
use Rattle.overlay_geom.specs.Edges.{CountedEdge, all_ends}
use Rattle.overlay_geom.specs.Plane.{Edge}
use Rattle.overlay_order.specs.Content.{plain_edges}
use Rattle.overlay_order.specs.Counts.{boolean_counts}
use Rattle.overlay_order.specs.declared.count.ShapeCountBoolean.{ShapeCountBoolean}
use Rattle.overlay_order.specs.declared.edge.CountedEdge.{CountedEdge as HeldEdge}

-- the edges with their counts
abbrev pub edges_once : {I : Type 0} → (I → ℤ) → List (HeldEdge I ShapeCountBoolean) → List CountedEdge
edges_once whole es = plain_edges whole boolean_counts es

-- and without
abbrev pub ends_once : {I : Type 0} → (I → ℤ) → List (HeldEdge I ShapeCountBoolean) → List Edge
ends_once whole es = all_ends (edges_once whole es)
