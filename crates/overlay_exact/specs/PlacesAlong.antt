-- The places of an edge in their order along it, told by its sorted meeting points: its start, the groups of equal
-- meeting points, and its end.
use Rattle.std.specs.Prelude.{ℕ, ◌<◌, ◌≤◌, List, length}
use Rattle.std.specs.List.{AllWithin}
use Rattle.overlay_geom.specs.Edges.{CountedEdge, ends_of}
use Rattle.overlay_geom.specs.Plane.{PlanePoint, Edge, SamePlace, in_plane}
use Rattle.overlay_plane.specs.EdgeLists.{IsForwardBy}
use Rattle.overlay_plane.specs.Rounds.{IsSmaller}
use Rattle.overlay_order.specs.Content.{IsAscending}
use Rattle.overlay_pairs.specs.Places.{IsAt}
use Rattle.overlay_scaled.specs.Pieces.{IsPlaceOn, IsPiece}
use Rattle.overlay_exact.specs.AllMet.{AreMetOf}
use Rattle.overlay_exact.specs.Along.{Met}
use Rattle.overlay_exact.specs.Groups.{IsGroup}
use Rattle.overlay_exact.specs.Parts.{start_part, end_part, AreEqual, LiesAt}

-- ms are the meeting points of the edge e, which stands at place i of an ascending list of edges that lead forward
pub record AreMetIn (es : List CountedEdge) (i : ℕ) (e : CountedEdge) (ms : List Met) : Type 0 where
  pub ascending : IsAscending es
  pub forward : IsForwardBy ends_of es
  pub entry : IsAt es i e
  pub met : AreMetOf es i e ms

-- the point of m on e is smaller than p, or larger
abbrev pub LiesBefore : Edge → PlanePoint → Met → Type 0
LiesBefore e p m = (q : PlanePoint) → LiesAt e m.part q → IsSmaller q p

abbrev pub LiesAfter : Edge → PlanePoint → Met → Type 0
LiesAfter e p m = (q : PlanePoint) → LiesAt e m.part q → IsSmaller p q

-- p is a place of e, at which the meeting points from place `from` up to `end` lie: earlier ones lie before p, and
-- later ones after it
pub record IsPlaceWith (es : List CountedEdge) (e : CountedEdge) (ms : List Met) (from end : ℕ)
    (p : PlanePoint) : Type 0 where
  pub place : IsPlaceOn es e p
  pub ordered : from ≤ end
  pub within : end ≤ length ms
  pub before : AllWithin (LiesBefore (ends_of e) p) ms 0 from
  pub at : AllWithin (λ m. LiesAt (ends_of e) m.part p) ms from end
  pub after : AllWithin (LiesAfter (ends_of e) p) ms end (length ms)

-- ---- laws

-- e starts at a place: with the first group, where its part is that of the start, else with no meeting points
pub record StartIsPlace (es : List CountedEdge) (e : CountedEdge) (ms : List Met) : Type 0 where
  pub met : (m : Met) (end : ℕ) → IsAt ms 0 m → AreEqual m.part start_part → IsGroup ms 0 end →
      IsPlaceWith es e ms 0 end (in_plane e.a)
  pub alone : ((m : Met) → IsAt ms 0 m → ¬ (AreEqual m.part start_part)) →
      IsPlaceWith es e ms 0 0 (in_plane e.a)

-- the next place, with the group that begins at `from`, and the piece of e that leads there from l
pub record IsNextPlace (es : List CountedEdge) (e : CountedEdge) (ms : List Met) (from end : ℕ)
    (l : PlanePoint) : Type 0 where
  pub next : PlanePoint
  pub place : IsPlaceWith es e ms from end next
  pub piece : IsPiece es e l next

-- from a place a piece leads to the place of the next group
abbrev pub GroupsArePlaces : List CountedEdge → CountedEdge → List Met → Type 0
GroupsArePlaces es e ms = (j k n : ℕ) (l : PlanePoint) → IsPlaceWith es e ms j k l → IsGroup ms k n →
    IsNextPlace es e ms k n l

-- e ends at the place l where the meeting points at l have the part of the end. Else e leads on from there; where no
-- group is left, a piece leads to its end, which is a place with no meeting points
pub record EndIsPlace (es : List CountedEdge) (e : CountedEdge) (ms : List Met) : Type 0 where
  pub begun : IsSmaller (in_plane e.a) (in_plane e.b)
  pub met : (j k : ℕ) (l : PlanePoint) (m : Met) → IsPlaceWith es e ms j k l → j < k → IsAt ms j m →
      AreEqual m.part end_part → SamePlace l (in_plane e.b)
  pub short : (j k : ℕ) (l : PlanePoint) (m : Met) → IsPlaceWith es e ms j k l → j < k → IsAt ms j m →
      ¬ (AreEqual m.part end_part) → IsSmaller l (in_plane e.b)
  pub alone : (j : ℕ) (l : PlanePoint) → IsPlaceWith es e ms j (length ms) l → IsSmaller l (in_plane e.b) →
      IsPlaceWith es e ms (length ms) (length ms) (in_plane e.b) × IsPiece es e l (in_plane e.b)

-- so a walk from group to group finds the places of an edge and its pieces, in their order
pub record TellPlaces (es : List CountedEdge) (e : CountedEdge) (ms : List Met) : Type 0 where
  pub start : StartIsPlace es e ms
  pub groups : GroupsArePlaces es e ms
  pub end : EndIsPlace es e ms

abbrev pub MeetingsTellPlaces : Type 0
MeetingsTellPlaces = (es : List CountedEdge) (i : ℕ) (e : CountedEdge) (ms : List Met) → AreMetIn es i e ms →
    TellPlaces es e ms
