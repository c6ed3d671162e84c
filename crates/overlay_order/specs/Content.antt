-- The content of a builder: the counted edges that it holds, as whole numbers.
use Rattle.std.specs.Prelude.{◌≡◌, ℕ, ◌^◌, ◌<◌, true, cond, ℤ, pos, negsuc, List, map, All, AllPairs}
use Rattle.std.specs.declared.cmp.Ordering.{Ordering}
use Rattle.std.specs.declared.cmp.Ordering.TheVariants.{Less, Equal, Greater}
use Rattle.overlay_geom.specs.Counts.{Counts}
use Rattle.overlay_geom.specs.Plane.{Point, Step, point_lt, edge_lt, edge_of, is_forward}
use Rattle.overlay_geom.specs.declared.options.ShapeType.{ShapeType}
use Rattle.overlay_geom.specs.declared.options.ShapeType.TheVariants.{Subject, Clip}
use Rattle.overlay_geom.specs.Points.{plain_point, InRange}
pub use Rattle.overlay_geom.specs.Resolved.{point_cmp}
use Rattle.overlay_geom.specs.Edges.{CountedEdge, ends_of, weight}
use Rattle.overlay_plane.specs.Carried.{Carried}
use Rattle.overlay_order.specs.Counts.{boolean_counts}
use Rattle.overlay_order.specs.declared.count.ShapeCountBoolean.{ShapeCountBoolean}
use Rattle.overlay_order.specs.declared.edge.CountedEdge.{CountedEdge as HeldEdge}

-- the counted edge between two points with these counts
abbrev pub edge_with : Point → Point → Counts → CountedEdge
edge_with a b c = record { a = a; b = b; counts = c }

-- the counted edge between whole points, for an edge of the program
abbrev pub plain_edge : {I C : Type 0} → (I → ℤ) → (C → Counts) → HeldEdge I C → CountedEdge
plain_edge whole counts e = edge_with (plain_point whole e.a) (plain_point whole e.b) (counts e.count)

-- the counted edges for a list of edges of the program
abbrev pub plain_edges : {I C : Type 0} → (I → ℤ) → (C → Counts) → List (HeldEdge I C) → List CountedEdge
plain_edges whole counts es = map (plain_edge whole counts) es

-- the counted edge for an edge of the program, with the value that it carries
abbrev pub carried_edge : {I C : Type 0} → (I → ℤ) → (C → Counts) → HeldEdge I C → Carried C
carried_edge whole counts e = record { edge = plain_edge whole counts e; carries = e.count }

-- the carried edges for a list of edges of the program
abbrev pub carried_edges : {I C : Type 0} → (I → ℤ) → (C → Counts) → List (HeldEdge I C) → List (Carried C)
carried_edges whole counts es = map (carried_edge whole counts) es

-- the comparison of two edges: by their smaller ends, then by their larger ends
abbrev pub edge_cmp : CountedEdge → CountedEdge → Ordering
edge_cmp e f = cond (edge_lt (ends_of e) (ends_of f)) Less (cond (edge_lt (ends_of f) (ends_of e)) Greater Equal)

-- the edge runs from its smaller to its larger end, both in the coordinate range
pub record IsHeld (limit : ℕ) (e : CountedEdge) : Type 0 where
  pub forward : point_lt e.a e.b ≡ true
  pub a_in_range : InRange limit e.a
  pub b_in_range : InRange limit e.b

-- a list of edges that a builder may hold: in range, and lighter than 2^31
pub record IsContent (limit : ℕ) (es : List CountedEdge) : Type 0 where
  pub held : All (IsHeld limit) es
  pub light : weight es < 2 ^ 31

-- each edge of the list comes before all later ones
abbrev pub IsAscending : List CountedEdge → Type 0
IsAscending es = AllPairs (λ e f. edge_lt (ends_of e) (ends_of f) ≡ true) es

-- the counts of an edge that a step of the subject or of the clip passes `count` times
abbrev pub count_for : ShapeType → ℤ → ShapeCountBoolean
count_for Subject count = record { subj = count; clip = pos 0 }
count_for Clip count = record { subj = pos 0; clip = count }

-- the counted edge of a step of the subject or of the clip
abbrev pub edge_for : ShapeType → Step → CountedEdge
edge_for t s =
    edge_with (edge_of s).a (edge_of s).b
    (boolean_counts (cond (is_forward s) (count_for t (pos 1)) (count_for t (negsuc 0))))

-- the number is the weight of the edges, which a builder may hold
pub record IsWeighed (limit : ℕ) (es : List CountedEdge) (number : ℕ) : Type 0 where
  pub content : IsContent limit es
  pub weighed : number ≡ weight es
