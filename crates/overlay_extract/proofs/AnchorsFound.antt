-- The first edge by the order of anchors among those of a walk is the walk's anchor.
use Rattle.std.proofs.Common.{◌≡◌, true, false, ◌&&◌, List, Contains, map}
use Rattle.std.specs.List.{All}
use Rattle.std.proofs.lemmas.Bool.{both_ways, and_from, or_left, or_right, false_from_ne_true}
use Rattle.std.proofs.lemmas.List.Elements.{All-contains}
use Rattle.overlay_geom.specs.Plane.{Step, Edge, point_lt, point_eq, edge_of}
use Rattle.overlay_geom.proofs.Orders.{point_eq-of_same}
use Rattle.overlay_plane.specs.Nodes.{turns_left}
use Rattle.overlay_plane.specs.Anchors.{IsAnchor, is_anchored_before}
use Rattle.overlay_plane.proofs.AnchorOrder.{anchored_before-itself, anchored_before-transitive}
use Rattle.overlay_plane.proofs.EdgeTurns.{IsForward}
use Rattle.overlay_plane.proofs.LeastSteps.{start_before}
use Rattle.overlay_plane.proofs.LongSteps.{long_leads_forward}
use Rattle.overlay_walk.specs.Steps.{IsLong}

-- the edge of the step is not before e
abbrev pub NotBefore : Edge → Step → Type 0
NotBefore e s = is_anchored_before (edge_of s) e ≡ false

-- an edge of the walk before which none of its edges is, is its anchor
pub anchor_found : (steps : List Step) → ((s : Step) → Contains steps s → ¬ (s.from ≡ s.to)) →
    (e : Edge) → Contains (map edge_of steps) e →
    All (NotBefore e) steps → IsAnchor steps e
anchor_found steps long e among first = record {
  among = among;
  leftmost = λ s at before. both_ways (is_anchored_before (edge_of s) e) (All-contains (NotBefore e) steps s first at)
      (or_left (point_lt (edge_of s).a e.a) (point_eq (edge_of s).a e.a && turns_left (edge_of s) e)
      (start_before s e.a (long_leads_forward s (long s at)) before));
  lowest = λ s at same. false_from_ne_true (turns_left (edge_of s) e)
      (λ left. both_ways (is_anchored_before (edge_of s) e) (All-contains (NotBefore e) steps s first at)
      (or_right (point_lt (edge_of s).a e.a) (point_eq (edge_of s).a e.a && turns_left (edge_of s) e)
      (and_from (point_eq (edge_of s).a e.a) (turns_left (edge_of s) e) (point_eq-of_same (edge_of s).a e.a same)
      left)));
}

-- an edge that is before the first so far is not preceded either
pub still_first : (limit : _) (steps : List Step) → All (IsLong limit) steps → (e f : Edge) → IsForward e →
    IsForward f → is_anchored_before f e ≡ true →
    All (NotBefore e) steps → All (NotBefore f) steps
still_first limit steps long e f he hf before first = λ i d h. false_from_ne_true _
    (λ earlier. both_ways _ (first i d h) (anchored_before-transitive _ f e (long_leads_forward _ (long i d h).apart) hf
    he earlier before))

-- the edge of a step of a walk leads forward
pub step_forward : (limit : _) (walk : List Step) → All (IsLong limit) walk → (s : Step) → Contains walk s →
    IsForward (edge_of s)
step_forward limit walk long s c = long_leads_forward s (All-contains (IsLong limit) walk s long c).apart

-- the edge is not anchored before itself
pub not_before_itself : (limit : _) (walk : List Step) → All (IsLong limit) walk → (s : Step) → Contains walk s →
    is_anchored_before (edge_of s) (edge_of s) ≡ false
not_before_itself limit walk long s c = anchored_before-itself (edge_of s) (step_forward limit walk long s c)
