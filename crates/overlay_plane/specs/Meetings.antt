-- Meeting points of two different edges: the single point that they share, or the two ends of their overlap.
use Rattle.std.specs.Prelude.{◌≡◌, ◌⊎◌, ◌↔◌, false, List, Contains}
use Rattle.overlay_geom.specs.Plane.{Point, PlanePoint, Edge, edge_eq, SamePlace, IsAt, IsEnd}
use Rattle.overlay_geom.specs.Edges.{CountedEdge, ends_of}
use Rattle.overlay_geom.specs.Settled.{IsCommon, IsSettled}
use Rattle.overlay_plane.specs.EdgeLists.{IsForwardBy}

-- p is the only point that the edges share, or an end of their overlap
pub record IsMeetingPoint (e f : Edge) (p : PlanePoint) : Type 0 where
  pub common : IsCommon e f p
  pub only_or_end : ((q : PlanePoint) → IsCommon e f q → SamePlace q p) ⊎ (IsEnd e p ⊎ IsEnd f p)

-- another edge of the list meets e at p
abbrev pub MeetsAnother : List CountedEdge → CountedEdge → PlanePoint → Type 0
MeetsAnother es e p = (f : CountedEdge) × Contains es f × (edge_eq (ends_of e) (ends_of f) ≡ false) × IsMeetingPoint
    (ends_of e) (ends_of f) p

-- every two edges meet only in whole points, or overlap
abbrev pub MeetInWholePoints : List CountedEdge → Type 0
MeetInWholePoints es = (e f : CountedEdge) (p : PlanePoint) → Contains es e → Contains es f →
    IsMeetingPoint (ends_of e) (ends_of f) p → (v : Point) × IsAt v p

-- any two different edges of the list meet only in points that are ends of both
abbrev pub MeetOnlyInEnds : List CountedEdge → Type 0
MeetOnlyInEnds es = (e f : CountedEdge) (p : PlanePoint) → Contains es e → Contains es f →
    edge_eq (ends_of e) (ends_of f) ≡ false →
    IsMeetingPoint (ends_of e) (ends_of f) p → IsEnd (ends_of e) p × IsEnd (ends_of f) p

-- a list of forward edges is settled exactly where each meeting point of two different edges is an end of both
abbrev pub SettledByMeetingPoints : Type 0
SettledByMeetingPoints = (es : List CountedEdge) → IsForwardBy ends_of es → MeetOnlyInEnds es ↔ IsSettled es
