-- What the meeting points found of an edge tell of its list.
use Rattle.std.specs.Prelude.{ℕ, List, All}
use Rattle.std.specs.List.{Any}
use Rattle.overlay_geom.specs.Edges.{CountedEdge, ends_of}
use Rattle.overlay_geom.specs.Plane.{PlanePoint}
use Rattle.overlay_plane.specs.Meetings.{MeetsAnother}
use Rattle.overlay_order.specs.Content.{IsAscending}
use Rattle.overlay_pairs.specs.Places.{IsAt}
use Rattle.overlay_exact.specs.AllMet.{AreMetOf}
use Rattle.overlay_exact.specs.Along.{Met}
use Rattle.overlay_exact.specs.Parts.{LiesAt}

-- ms tell the points in which another edge of the list meets e, and no others
pub record AreAllTold (es : List CountedEdge) (e : CountedEdge) (ms : List Met) : Type 0 where
  pub told : (p : PlanePoint) → MeetsAnother es e p → Any (λ m. LiesAt (ends_of e) m.part p) ms
  pub met : All (λ m. (p : PlanePoint) × LiesAt (ends_of e) m.part p × MeetsAnother es e p) ms

-- so do the meeting points found of an edge of an ascending list
abbrev pub MeetingsAreTold : Type 0
MeetingsAreTold = (es : List CountedEdge) (i : ℕ) (e : CountedEdge) (ms : List Met) → IsAscending es → IsAt es i e →
    AreMetOf es i e ms → AreAllTold es e ms
