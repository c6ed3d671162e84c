-- The edges round a node: those that start there, those that end there, and the relations of the windings beside them.
use Rattle.std.specs.Prelude.{◌≡◌, Bool, cond, ◌&&◌, ℤ, pos, ◌+ℤ◌, ◌-ℤ◌, ◌*ℤ◌, int_lt, List, Contains}
use Rattle.overlay_geom.specs.Plane.{Point, Edge, in_plane, point_eq, total}
use Rattle.overlay_geom.specs.Edges.{CountedEdge, ends_of, winding_by, winding_below}
use Rattle.overlay_plane.specs.Heights.{width, is_under}
use Rattle.overlay_plane.specs.EdgeLists.{IsBalanced}
use Rattle.overlay_plane.specs.Regions.{IsPlanar}

-- a planar list whose counts are balanced
pub record IsBalancedArrangement (count : CountedEdge → ℤ) (es : List CountedEdge) : Type 0 where
  pub planar : IsPlanar es
  pub balanced : IsBalanced ends_of count es

-- the cross product of the vectors along two edges: positive where f leads to the left of e
abbrev pub edge_turn : Edge → Edge → ℤ
edge_turn e f = width e *ℤ (f.b.y -ℤ f.a.y) -ℤ (e.b.y -ℤ e.a.y) *ℤ width f

-- f leads to the left of e
abbrev pub turns_left : Edge → Edge → Bool
turns_left e f = int_lt (pos 0) (edge_turn e f)

-- the sums of the counts of the edges that start in v, and of those that end in v
abbrev pub total_starting : (CountedEdge → ℤ) → List CountedEdge → Point → ℤ
total_starting count es v = total (λ f. cond (point_eq f.a v) (count f) (pos 0)) es

abbrev pub total_ending : (CountedEdge → ℤ) → List CountedEdge → Point → ℤ
total_ending count es v = total (λ f. cond (point_eq f.b v) (count f) (pos 0)) es

-- the sum of the counts of the edges that start where e does and lead to its right
abbrev pub total_starting_under : (CountedEdge → ℤ) → List CountedEdge → CountedEdge → ℤ
total_starting_under count es e = total (λ f. cond (point_eq f.a e.a && turns_left (ends_of f) (ends_of e))
    (count f) (pos 0)) es

-- the sum of the counts of the edges that end where e does, to its right: those under it, and the vertical edge
abbrev pub total_ending_under : (CountedEdge → ℤ) → List CountedEdge → CountedEdge → ℤ
total_ending_under count es e = total (λ f. cond (point_eq f.b e.b && turns_left (ends_of e) (ends_of f))
    (count f) (pos 0)) es

-- the winding below an edge is the winding at its start plus the counts of the edges that start there to its right
abbrev pub WindingFromAStart : Type 0
WindingFromAStart = (count : CountedEdge → ℤ) (es : List CountedEdge) → IsBalancedArrangement count es →
    (e : CountedEdge) →
    Contains es e → winding_below count es e ≡ winding_by count es (in_plane e.a) +ℤ total_starting_under count es e

-- the winding below an edge is the winding at its end plus the counts of the edges that end there to its right
abbrev pub WindingFromAnEnd : Type 0
WindingFromAnEnd = (count : CountedEdge → ℤ) (es : List CountedEdge) → IsBalancedArrangement count es →
    (e : CountedEdge) →
    Contains es e → winding_below count es e ≡ winding_by count es (in_plane e.b) +ℤ total_ending_under count es e

-- the counts that start in a node and those that end there have equal sums
abbrev pub NodeIsBalanced : Type 0
NodeIsBalanced = (count : CountedEdge → ℤ) (es : List CountedEdge) → IsBalanced ends_of count es → (v : Point) →
    total_starting count es v ≡ total_ending count es v

-- the list is balanced where, at every point, the starting and the ending counts have equal sums
abbrev pub NodesMakeBalance : Type 0
NodesMakeBalance = (count : CountedEdge → ℤ) (es : List CountedEdge) →
    ((v : Point) → total_ending count es v ≡ total_starting count es v) → IsBalanced ends_of count es

-- of two edges that start in one point, the right is under the other just right of it; of two that end in one point,
-- just left of it
pub record TurnsAsUnder (e f : Edge) : Type 0 where
  pub start : f.a ≡ e.a → turns_left f e ≡ is_under f e e.a.x (pos 1)
  pub end : f.b ≡ e.b → turns_left e f ≡ is_under f e (e.b.x +ℤ e.b.x -ℤ pos 1) (pos 2)

abbrev pub UnderBesideANode : Type 0
UnderBesideANode = (e f : Edge) → TurnsAsUnder e f

-- the winding below a vertical edge is the winding at its lower end plus the counts of all edges that start there and
-- are not vertical. It is also the winding at its upper end
pub record WindsBesideUpright (count : CountedEdge → ℤ) (es : List CountedEdge) (e : CountedEdge) : Type 0 where
  pub from_start : winding_below count es e ≡
      winding_by count es (in_plane e.a) +ℤ total (λ f. cond (point_eq f.a e.a && int_lt f.a.x f.b.x) (count f) (pos 0))
      es
  pub from_end : winding_below count es e ≡ winding_by count es (in_plane e.b)

abbrev pub WindingBesideUprights : Type 0
WindingBesideUprights = (count : CountedEdge → ℤ) (es : List CountedEdge) → IsBalancedArrangement count es →
    (e : CountedEdge) →
    Contains es e → e.a.x ≡ e.b.x → WindsBesideUpright count es e
