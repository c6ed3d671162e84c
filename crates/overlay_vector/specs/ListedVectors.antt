-- Selected edges as a program lists them, by their fill bits.
use Rattle.std.specs.Prelude.{ℤ, cond, List, [], ◌∷◌}
use Rattle.overlay_geom.specs.Points.{plain_point}
use Rattle.overlay_geom.specs.declared.overlay_rule.OverlayRule.{OverlayRule}
use Rattle.overlay_order.specs.declared.data.CountWithData.{CountWithData}
use Rattle.overlay_order.specs.declared.vector.DataVectorEdge.{DataVectorEdge}
use Rattle.overlay_walk.specs.Selection.{bits_select}
use Rattle.overlay_vector.specs.DataVectors.{DataVector}

-- the edge of a graph, without its counts
abbrev pub uncounted : {I D : Type 0} → (I → ℤ) → DataVectorEdge I (CountWithData D) → DataVector D
uncounted whole v = record {
  a = plain_point whole v.a;
  b = plain_point whole v.b;
  fill = v.fill;
  data_of = v.edge_data.edge_data;
}

-- the edge, if the rule holds on exactly one side of it by its fill bits
abbrev pub vectors_by_bits : {I D : Type 0} → (I → ℤ) → OverlayRule → DataVectorEdge I (CountWithData D) →
    List (DataVector D)
vectors_by_bits whole rule v = cond (bits_select rule v.fill) (uncounted whole v ∷ []) []
