-- Graphs in arrays: counted edges of an arrangement, a fill rule, a solver, and which given points are kept.
use Rattle.std.specs.Prelude.{ℕ, Bool, ◌<◌, ◌==◌, ℤ, List, [], map}
use Rattle.overlay_geom.specs.Counts.{Counts}
use Rattle.overlay_geom.specs.Edges.{CountedEdge}
use Rattle.overlay_graph.specs.Graphs.{IsArrangement}
use Rattle.overlay_order.specs.Content.{plain_edges}
use Rattle.overlay_order.specs.Counts.{boolean_counts}
use Rattle.overlay_order.specs.declared.data.CountWithData.{CountWithData}
use Rattle.overlay_order.specs.declared.edge.CountedEdge.{CountedEdge as HeldEdge}
use Rattle.overlay_plane.specs.Balance.{HasBalancedCounts}
use Rattle.polyover_views.specs.declared.graph.Graph32.{Graph32}
use Rattle.polyover_views.specs.declared.graph.Graph64.{Graph64}
use Rattle.polyover_views.specs.declared.graph.GraphEdge32.{GraphEdge32}
use Rattle.polyover_views.specs.declared.graph.GraphEdge64.{GraphEdge64}
use Rattle.polyover_views.specs.declared.made.HeldGraph.{HeldGraph}

-- an edge of the program, which carries the counts of a subject and of a clip
abbrev pub BooleanEdge : Type 0 → Type 0
BooleanEdge I = HeldEdge I (CountWithData (Unit {0}))

-- the counts that it carries
abbrev pub counts_in : CountWithData (Unit {0}) → Counts
counts_in c = boolean_counts c.count

-- ---- as C has them

-- the edges of what C has
abbrev pub edge_of_64 : GraphEdge64 → BooleanEdge ℤ
edge_of_64 e = record {
  a = record { x = e.a_x; y = e.a_y };
  b = record { x = e.b_x; y = e.b_y };
  count = record { count = record { subj = e.subj; clip = e.clip }; edge_data = tt };
}

abbrev pub edge_of_32 : GraphEdge32 → BooleanEdge ℤ
edge_of_32 e = record {
  a = record { x = e.a_x; y = e.a_y };
  b = record { x = e.b_x; y = e.b_y };
  count = record { count = record { subj = e.subj; clip = e.clip }; edge_data = tt };
}

-- ---- graphs

-- given points on one line are kept where the number is 1
abbrev pub keeps_points : ℕ → Bool
keeps_points n = n == 1

-- the numbers of a fill rule, of a solver, and of whether given points on one line are kept, and counted edges
pub record HeldArrangement : Type 0 where
  pub fill : ℕ
  pub solver : ℕ
  pub keep_given : ℕ
  pub edges : List CountedEdge

-- one of these edges, as whole numbers
abbrev pub plain_graph : {I : Type 0} → (I → ℤ) → ℕ → ℕ → ℕ → List (BooleanEdge I) → HeldArrangement
plain_graph whole fill solver keep_given edges = record {
  fill = fill;
  solver = solver;
  keep_given = keep_given;
  edges = plain_edges whole counts_in edges;
}

-- one in some form
abbrev pub graph_of : {I E : Type 0} → (I → ℤ) → (E → BooleanEdge I) → HeldGraph E → HeldArrangement
graph_of whole edge g = plain_graph whole g.fill g.solver g.keep_given (map edge g.edges.now)

-- one as C has it, at 64 and at 32 bits
abbrev pub graph_at_64 : Graph64 → HeldArrangement
graph_at_64 g = plain_graph (λ z. z) g.fill g.solver g.keep_given (map edge_of_64 g.edges.now)

abbrev pub graph_at_32 : Graph32 → HeldArrangement
graph_at_32 g = plain_graph (λ z. z) g.fill g.solver g.keep_given (map edge_of_32 g.edges.now)

-- one without edges, all of whose numbers are 0
abbrev pub no_graph : HeldArrangement
no_graph = record { fill = 0; solver = 0; keep_given = 0; edges = [] }

-- the fill rule is known, and the edges are an arrangement with balanced counts, as of each graph that is handed out,
-- and of one without edges
pub record CanBeAsked (limit : ℕ) (g : HeldArrangement) : Type 0 where
  pub known : g.fill < 4
  pub arranged : IsArrangement limit g.edges
  pub balanced : HasBalancedCounts g.edges
