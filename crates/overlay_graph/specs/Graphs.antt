-- The model of a graph: the edges of an arrangement with their values, and the rule by which their sides are filled.
use Rattle.std.specs.Prelude.{◌≡◌, ℕ, ℤ, List, map}
use Rattle.overlay_geom.specs.Counts.{Counts}
use Rattle.overlay_geom.specs.Points.{plain_point}
use Rattle.overlay_geom.specs.Edges.{CountedEdge}
use Rattle.overlay_geom.specs.Settled.{IsSettled}
use Rattle.overlay_geom.specs.Rules.{fill_bits}
use Rattle.overlay_geom.specs.declared.fill_rule.FillRule.{FillRule}
use Rattle.overlay_plane.specs.Carried.{Carried, edges_in}
use Rattle.overlay_order.specs.Content.{edge_with, IsContent, IsAscending}
use Rattle.overlay_order.specs.declared.vector.DataVectorEdge.{DataVectorEdge}

-- the fill rule, and the edges in order, each with its value
pub record Graph (C : Type 0) : Type 0 where
  pub fill_rule : FillRule
  pub edges : List (Carried C)

-- the counted edges of a graph
abbrev pub graph_edges : {C : Type 0} → Graph C → List CountedEdge
graph_edges g = edges_in g.edges

-- the edges form an arrangement: in the coordinate range and lighter than 2^31, in order, and meeting in ends alone
pub record IsArrangement (limit : ℕ) (es : List CountedEdge) : Type 0 where
  pub content : IsContent limit es
  pub ascending : IsAscending es
  pub settled : IsSettled es

-- the counted edge of a vector, with the value that the vector carries; and those of a list
abbrev pub carried_vector : {I C : Type 0} → (I → ℤ) → (C → Counts) → DataVectorEdge I C → Carried C
carried_vector whole counts v =
    record {
      edge = edge_with (plain_point whole v.a) (plain_point whole v.b) (counts v.edge_data);
      carries =
          v.edge_data;
    }

abbrev pub carried_vectors : {I C : Type 0} → (I → ℤ) → (C → Counts) → List (DataVectorEdge I C) → List (Carried C)
carried_vectors whole counts vs = map (carried_vector whole counts) vs

-- the edges form an arrangement, with these fill bits
pub record AreFilledBy (limit : ℕ) (rule : FillRule) (es : List CountedEdge) (fills : List ℕ) : Type 0 where
  pub arranged : IsArrangement limit es
  pub filled : fills ≡ map (fill_bits rule es) es
