-- Laws of a walk along an edge of a list, which need not be an arrangement.
use Rattle.std.specs.Prelude.{◌≡◌, ◌↔◌, ℕ, Bool, false, ℤ, pos, ◌+ℤ◌, List, length, slice_range}
use Rattle.overlay_geom.specs.Edges.{CountedEdge, ends_of}
use Rattle.overlay_geom.specs.Merged.{IsMerged}
use Rattle.overlay_geom.specs.Plane.{PlanePoint, in_plane}
use Rattle.overlay_plane.specs.Balance.{HasBalancedCounts}
use Rattle.overlay_plane.specs.EdgeLists.{IsForwardBy}
use Rattle.overlay_order.specs.Content.{IsAscending}
use Rattle.overlay_scaled.specs.Pieces.{IsPiece}
use Rattle.overlay_scaled.specs.PlainContacts.{HasSharedPlace}
use Rattle.overlay_exact.specs.AllMet.{AreMetByStarts}
use Rattle.overlay_exact.specs.Along.{Met}
use Rattle.overlay_exact.specs.PlacesAlong.{AreMetIn, IsPlaceWith}
use Rattle.overlay_given.specs.Places.{ArePlacesBy, SomeShare}
use Rattle.overlay_given.specs.Relations.{AreInteriorRelations, IsFoundOf, relations_by}
use Rattle.overlay_given.specs.Steps.{Rises}
use Rattle.overlay_given.specs.Walk.{WindsFromStart, WindsFrom, AreSidesOf}
use Rattle.overlay_given.specs.declared.beside.Beside.{Beside}
use Rattle.overlay_given.specs.declared.relations.Found.{Found}
use Rattle.overlay_given.specs.declared.sides.FilledSides.{FilledSides}
use Rattle.overlay_given.specs.declared.sides.SidesAtPlace.{SidesAtPlace}
use Rattle.overlay_given.specs.declared.steps.Stop.TheVariants.{Later}

-- the windings beside the first piece of an edge are known from those at its start
abbrev pub WindingsAreKnownFromStarts : Type 0
WindingsAreKnownFromStarts = (es : List CountedEdge) (i : ℕ) (e : CountedEdge) (ms : List Met) → AreMetIn es i e ms →
    HasBalancedCounts es → (end : ℕ) → IsPlaceWith es e ms 0 end (in_plane e.a) → (b : Beside) →
    WindsFromStart es e (slice_range ms 0 end) b → WindsFrom es e (in_plane e.a) b

-- four sums
pub record IsSum (a b c : Beside) : Type 0 where
  pub subj_below : c.subj_below ≡ a.subj_below +ℤ b.subj_below
  pub subj_above : c.subj_above ≡ a.subj_above +ℤ b.subj_above
  pub clip_below : c.clip_below ≡ a.clip_below +ℤ b.clip_below
  pub clip_above : c.clip_above ≡ a.clip_above +ℤ b.clip_above

-- from a piece to the next
abbrev pub WindingsAreKnownPastPlaces : Type 0
WindingsAreKnownPastPlaces = (es : List CountedEdge) (i : ℕ) (e : CountedEdge) (ms : List Met) → AreMetIn es i e ms →
    HasBalancedCounts es → (l next : PlanePoint) → IsPiece es e l next → (from end : ℕ) →
    IsPlaceWith es e ms from end next → (old sum new : Beside) → WindsFrom es e l old →
    Rises Later es e (slice_range ms from end) sum → IsSum old sum new → WindsFrom es e next new

-- the sides beside all plain points tell the relations of the content
abbrev pub SidesTellInteriors : Type 0
SidesTellInteriors = (filled : ℤ → Bool) (content es : List CountedEdge) → filled (pos 0) ≡ false →
    IsForwardBy ends_of es → HasBalancedCounts es → IsMerged content es → (sides : List FilledSides) →
    AreSidesOf filled es (length es) sides → (f : Found) → IsFoundOf sides f →
    AreInteriorRelations filled content (relations_by f)

-- the sides at the meeting points tell whether a border of the subject alone and one of the clip alone end at one place
abbrev pub PlacesTellSharedPlaces : Type 0
PlacesTellSharedPlaces = (filled : ℤ → Bool) (es : List CountedEdge) (starts : List ℕ) (ms : List Met)
    (places : List SidesAtPlace) → IsAscending es → IsForwardBy ends_of es → HasBalancedCounts es →
    AreMetByStarts es (length es) starts ms → ArePlacesBy filled es (length es) starts ms places →
    SomeShare starts ms places ↔ HasSharedPlace filled es
