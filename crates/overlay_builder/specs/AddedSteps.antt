-- A single step that becomes a counted edge, and the value that the edge carries, reversed where the step runs back.
use Rattle.std.specs.Prelude.{◌≡◌, ◌^◌, ◌≤◌, ◌++◌, MatchBool, List, map, All}
use Rattle.std.specs.Ordering.{is_le}
use Rattle.overlay_geom.specs.Counts.{Counts}
use Rattle.overlay_geom.specs.Edges.{weight}
use Rattle.overlay_geom.specs.Plane.{Point, Step, edge_of, is_forward, steps_between}
use Rattle.overlay_order.specs.Content.{edge_with, point_cmp}
use Rattle.overlay_order.specs.EdgeData.{IsReversedBy}
use Rattle.overlay_plane.specs.Carried.{Carried, edges_in}

-- the edge of the step, carrying this value
abbrev pub edge_carrying : {C : Type 0} → (C → Counts) → C → Step → Carried C
edge_carrying counts c s = record { edge = edge_with (edge_of s).a (edge_of s).b (counts c); carries = c }

-- the second list extends the first by the edge of the step between two points. It carries `given`, or the reverse of
-- `given` where the step runs from the larger to the smaller point. Equal points have no step
pub record AddsStep {C : Type 0} (counts : C → Counts) (reverses : C → C → Type 0) (given : C) (from to : Point)
    (old new : List (Carried C)) : Type 0 where
  pub carried : C
  pub is_carried : All (λ s. MatchBool (is_forward s) (carried ≡ given) (IsReversedBy counts reverses given carried))
      (steps_between from to)
  pub content : new ≡ old ++ map (edge_carrying counts carried) (steps_between from to)

-- the store after the step between two points is added. It is unchanged, unless the step runs from the larger to the
-- smaller point; then one call may write into it
abbrev pub LeavesStore : {S : Type 0} → (S → S → Type 0) → Point → Point → S → S → Type 0
LeavesStore writes from to old new = MatchBool (is_le (point_cmp from to)) (new ≡ old) (writes old new)

-- the edge of the step between the points, carrying this value, would bring the weight to 2^31
abbrev pub StepWeighsTooMuch : {C : Type 0} → (C → Counts) → C → Point → Point → List (Carried C) → Type 0
StepWeighsTooMuch counts given from to es =
    2 ^ 31 ≤ weight (edges_in (es ++ map (edge_carrying counts given) (steps_between from to)))
