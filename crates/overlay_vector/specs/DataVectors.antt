-- The edges of an answer: with ends, filled sides and data.
use Rattle.std.specs.Prelude.{ℕ, ℤ, Bool, List, map, filter}
use Rattle.overlay_geom.specs.Plane.{Point}
use Rattle.overlay_geom.specs.Points.{plain_point}
use Rattle.overlay_geom.specs.Edges.{CountedEdge, subj_of, clip_of}
use Rattle.overlay_geom.specs.Rules.{fill_bits, rules_hold}
use Rattle.overlay_geom.specs.declared.fill_rule.FillRule.{FillRule}
use Rattle.overlay_geom.specs.declared.overlay_rule.OverlayRule.{OverlayRule}
use Rattle.overlay_plane.specs.Carried.{Carried, edges_in}
use Rattle.overlay_plane.specs.SelectedSteps.{is_selected}
use Rattle.overlay_order.specs.declared.data.CountWithData.{CountWithData}
use Rattle.overlay_order.specs.declared.vector.DataVectorEdge.{DataVectorEdge}

-- an edge from a to b, which of its sides are filled, as fill bits, and its data
pub record DataVector (D : Type 0) : Type 0 where
  pub a : Point
  pub b : Point
  pub fill : ℕ
  pub data_of : D

-- the vector at an edge's numbers; and those of a list
abbrev pub plain_data_vector : {I D : Type 0} → (I → ℤ) → DataVectorEdge I D → DataVector D
plain_data_vector whole v =
    record { a = plain_point whole v.a; b = plain_point whole v.b; fill = v.fill; data_of = v.edge_data }

abbrev pub plain_data_vectors : {I D : Type 0} → (I → ℤ) → List (DataVectorEdge I D) → List (DataVector D)
plain_data_vectors whole vs = map (plain_data_vector whole) vs

-- an edge of the list from its smaller to its larger end, with the sides of it that are filled, above read as left, and
-- its data
abbrev pub data_vector : {D : Type 0} → FillRule → List CountedEdge → Carried (CountWithData D) → DataVector D
data_vector rule es x =
    record { a = x.edge.a; b = x.edge.b; fill = fill_bits rule es x.edge; data_of = x.carries.edge_data }

-- all edges in their order, with filled sides and data
abbrev pub graph_vectors : {D : Type 0} → FillRule → List (Carried (CountWithData D)) → List (DataVector D)
graph_vectors fill xs = map (data_vector fill (edges_in xs)) xs

-- the rules hold on exactly one side of the edge
abbrev pub is_selected_edge : FillRule → OverlayRule → List CountedEdge → CountedEdge → Bool
is_selected_edge fill rule es e = is_selected (rules_hold fill rule) subj_of clip_of es e

-- the selected edges in their order, with filled sides and data
abbrev pub selected_vectors : {D : Type 0} → FillRule → OverlayRule → List (Carried (CountWithData D)) →
    List (DataVector D)
selected_vectors fill rule xs =
    map (data_vector fill (edges_in xs)) (filter (λ x. is_selected_edge fill rule (edges_in xs) x.edge) xs)
