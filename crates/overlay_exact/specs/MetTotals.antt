-- Sums over all edges of a list that are sums over the meeting points at one place of an edge: by these the windings
-- beside the edge change there.
use Rattle.std.specs.Prelude.{◌≡◌, false, cond, not, ◌&&◌, ℕ, ℤ, pos, ◌+ℤ◌, ◌*ℤ◌, List, Contains, slice_index_or}
use Rattle.std.specs.Prelude.{length, slice_range}
use Rattle.overlay_geom.specs.Edges.{CountedEdge, ends_of}
use Rattle.overlay_geom.specs.Plane.{PlanePoint, edge_eq, in_plane, total}
use Rattle.overlay_plane.specs.CutPoints.{are_along}
use Rattle.overlay_plane.specs.Meetings.{IsMeetingPoint}
use Rattle.overlay_scaled.specs.BesidePieces.{is_right_of, is_at, total_to_right, total_from_right, total_leading_on}
use Rattle.overlay_scaled.specs.BesidePieces.{total_coming_up, rise_past, rise_along}
use Rattle.overlay_exact.specs.Along.{Met}
use Rattle.overlay_exact.specs.PlacesAlong.{AreMetIn, IsPlaceWith}
use Rattle.overlay_exact.specs.WindingSteps.{winding_step, along_step}

-- the sum of the numbers that f gives to the edges met at these points of e
abbrev pub total_met : (CountedEdge → ℤ) → List CountedEdge → CountedEdge → List Met → ℤ
total_met f es e ms = total (λ m. f (slice_index_or es m.other e)) ms

-- f gives 0 to each edge of the list, other than e, that has no meeting point with e at p
abbrev pub IsOfMet : (CountedEdge → ℤ) → List CountedEdge → CountedEdge → PlanePoint → Type 0
IsOfMet f es e p = (g : CountedEdge) → Contains es g → edge_eq (ends_of e) (ends_of g) ≡ false →
    ¬ (IsMeetingPoint (ends_of e) (ends_of g) p) → f g ≡ pos 0

-- the sums over the list at the place p of e, told by e and the meeting points at p
pub record TotalsOfMet (count : CountedEdge → ℤ) (es : List CountedEdge) (e : CountedEdge) (p : PlanePoint)
    (met : List Met) : Type 0 where
  pub to_right : total_to_right count es e p ≡
      total_met (λ f. cond (is_right_of (ends_of e) f.b) (count f) (pos 0)) es e met
  pub from_right : total_from_right count es e p ≡
      total_met (λ f. cond (is_right_of (ends_of e) f.a) (count f) (pos 0)) es e met
  pub past : rise_past count es e p ≡ total_met (λ f. count f *ℤ winding_step (ends_of e) (ends_of f)) es e met
  pub along : rise_along count es e p ≡ count e *ℤ along_step (ends_of e) (ends_of e) p
      +ℤ total_met (λ f. count f *ℤ along_step (ends_of e) (ends_of f) p) es e met

-- at the start of e, those that lead on along it
abbrev pub LeadOnFromStart : (CountedEdge → ℤ) → List CountedEdge → CountedEdge → List Met → Type 0
LeadOnFromStart count es e met = total_leading_on count es e (in_plane e.a) ≡ count e
    +ℤ total_met (λ f. cond (are_along (ends_of e) (ends_of f) && not (is_at f.b (in_plane e.a))) (count f) (pos 0))
    es e met

-- and at its end, those that come up along it
abbrev pub ComeUpToEnd : (CountedEdge → ℤ) → List CountedEdge → CountedEdge → List Met → Type 0
ComeUpToEnd count es e met = total_coming_up count es e (in_plane e.b) ≡ count e
    +ℤ total_met (λ f. cond (are_along (ends_of e) (ends_of f) && not (is_at f.a (in_plane e.b))) (count f) (pos 0))
    es e met

-- ---- laws

-- the edges that have a meeting point with e at the place p are e, and those met there, each once
abbrev pub MetTellTotals : Type 0
MetTellTotals = (f : CountedEdge → ℤ) (es : List CountedEdge) (i : ℕ) (e : CountedEdge) (ms : List Met)
    (from end : ℕ) (p : PlanePoint) → AreMetIn es i e ms → IsPlaceWith es e ms from end p → IsOfMet f es e p →
    total f es ≡ f e +ℤ total_met f es e (slice_range ms from end)

-- so the sums by which windings change are sums over the meeting points
abbrev pub MetTellRises : Type 0
MetTellRises = (count : CountedEdge → ℤ) (es : List CountedEdge) (i : ℕ) (e : CountedEdge) (ms : List Met)
    (from end : ℕ) (p : PlanePoint) → AreMetIn es i e ms → IsPlaceWith es e ms from end p →
    TotalsOfMet count es e p (slice_range ms from end)

abbrev pub MetTellStarts : Type 0
MetTellStarts = (count : CountedEdge → ℤ) (es : List CountedEdge) (i : ℕ) (e : CountedEdge) (ms : List Met)
    (end : ℕ) → AreMetIn es i e ms → IsPlaceWith es e ms 0 end (in_plane e.a) →
    LeadOnFromStart count es e (slice_range ms 0 end)

abbrev pub MetTellEnds : Type 0
MetTellEnds = (count : CountedEdge → ℤ) (es : List CountedEdge) (i : ℕ) (e : CountedEdge) (ms : List Met)
    (from : ℕ) → AreMetIn es i e ms → IsPlaceWith es e ms from (length ms) (in_plane e.b) →
    ComeUpToEnd count es e (slice_range ms from (length ms))
