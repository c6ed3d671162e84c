-- The anchor of a contour, its lowest edge at its leftmost lowest point, and the next edge below it.
use Rattle.std.specs.Prelude.{◌≡◌, ◌⊎◌, Bool, true, false, ◌&&◌, ◌||◌, ℤ, pos, int_lt, List, map, Contains, AllPairs}
use Rattle.std.specs.Ordering.{int_eq}
use Rattle.overlay_geom.specs.Plane.{Step, Edge, in_plane, edge_of, edge_eq, point_lt, point_eq, is_strictly_below}
use Rattle.overlay_geom.specs.Settled.{IsSettledBy, MeetInEnds}
use Rattle.overlay_plane.specs.Heights.{gap, covers, is_under}
use Rattle.overlay_plane.specs.Nodes.{turns_left}
use Rattle.overlay_plane.specs.LeftmostSteps.{NoneHasEndBefore, NoneTakenBelow}
use Rattle.overlay_plane.specs.Contours.{IsContour}

-- the edge is the lowest of the steps at their leftmost lowest point, where it starts
pub record IsAnchor (steps : List Step) (e : Edge) : Type 0 where
  pub among : Contains (map edge_of steps) e
  pub leftmost : NoneHasEndBefore steps e.a
  pub lowest : NoneTakenBelow steps e.a e

-- f is strictly below the anchor's point, or starts there with a smaller slope than the anchor's edge
abbrev pub is_below_anchor : Edge → Edge → Bool
is_below_anchor anchor f = is_strictly_below f (in_plane anchor.a) || (point_eq f.a anchor.a && turns_left f anchor)

-- f is lower than g at x: by height, then by slope
abbrev pub is_lower_at : ℤ → Edge → Edge → Bool
is_lower_at x f g = int_lt (pos 0) (gap f g x (pos 1)) || (int_eq (gap f g x (pos 1)) (pos 0) && turns_left f g)

-- f is the greatest of the edges below the anchor, by height at the x-coordinate of its point, then by slope
pub record IsNextBelow (edges : List Edge) (anchor f : Edge) : Type 0 where
  pub among : Contains edges f
  pub below : is_below_anchor anchor f ≡ true
  pub greatest : (g : Edge) → Contains edges g → is_below_anchor anchor g ≡ true → is_lower_at anchor.a.x f g ≡ false

-- anchors are ordered by their points, then by slope, lowest first
abbrev pub is_anchored_before : Edge → Edge → Bool
is_anchored_before e f = point_lt e.a f.a || (point_eq e.a f.a && turns_left e f)

-- ---- laws

-- a contour has an anchor
abbrev pub AnchorsExist : Type 0
AnchorsExist = (walk : List Step) → IsContour walk → (e : Edge) × IsAnchor walk e

-- no two steps of the list walk along one edge, in one direction or in both
abbrev pub HasEachEdgeOnce : List Step → Type 0
HasEachEdgeOnce steps = AllPairs (λ s t. edge_eq (edge_of s) (edge_of t) ≡ false) steps

-- a contour's anchor is not vertical, where the contour walks along each edge once and its edges meet in ends alone
abbrev pub AnchorsLeadOn : Type 0
AnchorsLeadOn = (walk : List Step) → IsContour walk → HasEachEdgeOnce walk → IsSettledBy edge_of walk →
    (e : Edge) → IsAnchor walk e →
    covers e e.a.x (pos 1) ≡ true

-- takes forward edges that meet in ends alone, where the first covers the x-coordinate at which it starts. The second
-- is below that anchor exactly where it is under the first just right of it
abbrev pub BelowAnAnchorIsUnder : Type 0
BelowAnAnchorIsUnder = (e f : Edge) → point_lt e.a e.b ≡ true → point_lt f.a f.b ≡ true →
    (edge_eq e f ≡ true) ⊎ MeetInEnds e f →
    covers e e.a.x (pos 1) ≡ true → is_below_anchor e f ≡ covers f e.a.x (pos 1) && is_under f e e.a.x (pos 1)

-- two edges over an x-coordinate that meet in ends alone have the same order there as just right of it
abbrev pub LowerAtIsUnder : Type 0
LowerAtIsUnder = (f g : Edge) → (edge_eq f g ≡ true) ⊎ MeetInEnds f g → (x : ℤ) → covers f x (pos 1) ≡ true →
    covers g x (pos 1) ≡ true →
    is_lower_at x f g ≡ is_under f g x (pos 1)
