-- The model of an edge with its filled sides: its ends and the fill bits.
use Rattle.std.specs.Prelude.{ℕ, ℤ, List}
use Rattle.overlay_geom.specs.Plane.{Point}
use Rattle.overlay_geom.specs.Points.{plain_point}
use Rattle.overlay_geom.specs.Edges.{CountedEdge}
use Rattle.overlay_geom.specs.Rules.{fill_bits}
use Rattle.overlay_geom.specs.declared.fill_rule.FillRule.{FillRule}
use Rattle.overlay_order.specs.declared.vector.DataVectorEdge.{DataVectorEdge}

-- an edge from a to b, and its filled sides as fill bits
pub record Vector : Type 0 where
  pub a : Point
  pub b : Point
  pub fill : ℕ

-- the vector of an edge of the program
abbrev pub plain_vector : {I D : Type 0} → (I → ℤ) → DataVectorEdge I D → Vector
plain_vector whole v = record { a = plain_point whole v.a; b = plain_point whole v.b; fill = v.fill }

-- an edge of the list, and its filled sides: the left side, from a to b, is above it
abbrev pub vector_of : FillRule → List CountedEdge → CountedEdge → Vector
vector_of rule es e = record { a = e.a; b = e.b; fill = fill_bits rule es e }
