-- Edges of the program that count once each.
use Rattle.std.specs.Prelude.{pos}
use Rattle.overlay_geom.specs.declared.edge.IntEdge.{IntEdge}
use Rattle.overlay_order.specs.declared.count.ShapeCountBoolean.{ShapeCountBoolean}
use Rattle.overlay_order.specs.declared.edge.CountedEdge.{CountedEdge as HeldEdge}

-- an edge of the program that counts once
abbrev pub once : {I : Type 0} → IntEdge I → HeldEdge I ShapeCountBoolean
once e = record { a = e.a; b = e.b; count = record { subj = pos 1; clip = pos 0 } }
