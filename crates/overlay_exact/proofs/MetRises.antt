-- The sums by which the windings beside an edge change at a place, told by the group of meeting points there.
use Rattle.std.proofs.Common.{◌≡◌, inl, inr, ⊎_elim, ℕ, Bool, true, false, cond, not, ◌&&◌, ℤ, pos, ◌+ℤ◌, ◌-ℤ◌, ◌*ℤ◌}
use Rattle.std.proofs.Common.{int_lt, List, length, Contains, refl, sym, ap, ap₂, ◌∙◌}
use Rattle.std.specs.Bool.{Decides}
use Rattle.std.proofs.lemmas.Bool.{cases_Bool, false_from_ne_true}
use lib.IntN.{+ℤ_idl}
use Rattle.overlay_geom.specs.Edges.{CountedEdge, ends_of}
use Rattle.overlay_geom.specs.Placed.{IsAlong}
use Rattle.overlay_geom.specs.Plane.{Point, PlanePoint, Edge, IsOn, IsAt, IsEnd, in_plane, edge_eq, cross_at, total}
use Rattle.overlay_geom.proofs.Cross.{cross_at_same, cross_at_first}
use Rattle.overlay_geom.proofs.Identities.{solve, number, ◌⊗◌, ◌⊖◌, ◌≗◌}
use Rattle.overlay_geom.proofs.PointOrder.{IsBefore, before_is_other}
use Rattle.overlay_geom.proofs.Signs.{linear}
use Rattle.overlay_plane.specs.CutPoints.{are_along}
use Rattle.overlay_plane.specs.Meetings.{IsMeetingPoint}
use Rattle.overlay_plane.specs.Regions.{one_if}
use Rattle.overlay_plane.proofs.CommonPoints.{common_cases, end_is_meeting, Decides-are_along}
use Rattle.overlay_plane.proofs.Ends.{start_on, end_on}
use Rattle.overlay_plane.proofs.PlaceOrder.{on_same_place}
use Rattle.overlay_plane.proofs.Totals.{total-same}
use Rattle.overlay_plane.proofs.WholeOnEdges.{at_itself, at_whole, same_place_at, Decides-is_at}
use Rattle.overlay_scaled.specs.BesidePieces.{is_right_of, is_at, total_to_right, total_from_right, total_leading_on}
use Rattle.overlay_scaled.specs.BesidePieces.{total_coming_up, rise_past, rise_along}
use Rattle.overlay_scaled.specs.Through.{is_on}
use Rattle.overlay_scaled.proofs.OnTests.{on_or_off, test_from_on, test_from_off}
use Rattle.overlay_exact.specs.Along.{Met}
use Rattle.overlay_exact.specs.MetTotals.{IsOfMet, total_met, TotalsOfMet, LeadOnFromStart, ComeUpToEnd}
use Rattle.overlay_exact.specs.PlacesAlong.{AreMetIn, IsPlaceWith}
use Rattle.overlay_exact.specs.WindingSteps.{winding_step, along_step}
use Rattle.overlay_exact.proofs.MetTotals.{met, edge_of_met, of_met, totals_told}
use Rattle.overlay_exact.proofs.PiecesFollow.{before_in}
use Rattle.overlay_exact.proofs.PlacesTold.{entry, e_before}

-- ---- tests and sums

-- no number under a test
none_under : (t : Bool) (z : ℤ) → z ≡ pos 0 → cond t z (pos 0) ≡ pos 0
none_under true z is = is
none_under false z is = refl

-- two tests, one after the other
both_tests : (s t : Bool) (z : ℤ) → cond (s && t) z (pos 0) ≡ cond s (cond t z (pos 0)) (pos 0)
both_tests true t z = refl
both_tests false t z = refl

-- a product under a test
times_under : (t : Bool) (c z : ℤ) → cond t (c *ℤ z) (pos 0) ≡ c *ℤ cond t z (pos 0)
times_under true c z = refl
times_under false c z = solve 1 (λ c. number (pos 0) ≗ c ⊗ number (pos 0)) tt c

-- an edge with both ends on a line has none on its right
none_right : (e f : Edge) → IsAlong e f → (is_right_of e f.a ≡ false) × (is_right_of e f.b ≡ false)
none_right e f (a, b) = (ap (λ z. int_lt z (pos 0)) a, ap (λ z. int_lt z (pos 0)) b)

-- an edge lies along itself
along_itself : (e : Edge) → IsAlong e e
along_itself e = (cross_at_first e.a e.b, cross_at_same e.a e.b)

module _ (es : List CountedEdge) (i : ℕ) (e : CountedEdge) (ms : List Met) (given : AreMetIn es i e ms)
    (from end : ℕ) (p : PlanePoint) (place : IsPlaceWith es e ms from end p) where
  abbrev here : List Met
  here = met es i e ms given from end p place

  -- an edge through p that has no meeting point with e there runs along e
  along_or_met : (g : CountedEdge) → Contains es g → ¬ (IsMeetingPoint (ends_of e) (ends_of g) p) →
      IsOn (ends_of g) p → IsAlong (ends_of e) (ends_of g)
  along_or_met g c none on = ⊎_elim (λ meeting. absurd (none meeting)) (λ along. along.0)
      (common_cases (ends_of e) (ends_of g) p (before_in es given.forward g c) (place.place.on, on))

  -- the edges met are on p
  met_on : (m : Met) → Contains here m → is_on (ends_of (edge_of_met es i e ms given from end p place m)) p ≡ true
  met_on m c = test_from_on (ends_of (edge_of_met es i e ms given from end p place m)) p
      (of_met es i e ms given from end p place m c).meets.common.1

  -- a sum over the edges through p of numbers that are 0 along e
  module _ (h : CountedEdge → ℤ)
      (none : (g : CountedEdge) → IsAlong (ends_of e) (ends_of g) → h g ≡ pos 0) where
    abbrev through : CountedEdge → ℤ
    through g = cond (is_on (ends_of g) p) (h g) (pos 0)

    of_met_alone : IsOfMet through es e p
    of_met_alone g c other apart = ⊎_elim
        (λ on. none_under (is_on (ends_of g) p) (h g) (none g (along_or_met g c apart on)))
        (λ off. ap (λ t. cond t (h g) (pos 0)) (test_from_off (ends_of g) p off))
        (on_or_off (ends_of g) p)

    through_told : total through es ≡ total_met h es e here
    through_told =
        totals_told es i e ms given from end p place through of_met_alone
        ∙ ap (λ z. z +ℤ total_met through es e here)
        (none_under (is_on (ends_of e) p) (h e) (none e (along_itself (ends_of e))))
        ∙ +ℤ_idl (total_met through es e here)
        ∙ total-same (λ m. through (edge_of_met es i e ms given from end p place m))
        (λ m. h (edge_of_met es i e ms given from end p place m)) here
        (λ m c. ap (λ t. cond t (h (edge_of_met es i e ms given from end p place m)) (pos 0)) (met_on m c))

  module _ (count : CountedEdge → ℤ) where
    to_right : total_to_right count es e p ≡
        total_met (λ f. cond (is_right_of (ends_of e) f.b) (count f) (pos 0)) es e here
    to_right =
        total-same (λ f. cond (is_on (ends_of f) p && is_right_of (ends_of e) f.b) (count f) (pos 0))
        (through (λ f. cond (is_right_of (ends_of e) f.b) (count f) (pos 0)) none) es
        (λ f c. both_tests (is_on (ends_of f) p) (is_right_of (ends_of e) f.b) (count f))
        ∙ through_told (λ f. cond (is_right_of (ends_of e) f.b) (count f) (pos 0)) none
      where
        none : (g : CountedEdge) → IsAlong (ends_of e) (ends_of g) →
            cond (is_right_of (ends_of e) g.b) (count g) (pos 0) ≡ pos 0
        none g along = ap (λ t. cond t (count g) (pos 0)) (none_right (ends_of e) (ends_of g) along).1

    from_right : total_from_right count es e p ≡
        total_met (λ f. cond (is_right_of (ends_of e) f.a) (count f) (pos 0)) es e here
    from_right =
        total-same (λ f. cond (is_on (ends_of f) p && is_right_of (ends_of e) f.a) (count f) (pos 0))
        (through (λ f. cond (is_right_of (ends_of e) f.a) (count f) (pos 0)) none) es
        (λ f c. both_tests (is_on (ends_of f) p) (is_right_of (ends_of e) f.a) (count f))
        ∙ through_told (λ f. cond (is_right_of (ends_of e) f.a) (count f) (pos 0)) none
      where
        none : (g : CountedEdge) → IsAlong (ends_of e) (ends_of g) →
            cond (is_right_of (ends_of e) g.a) (count g) (pos 0) ≡ pos 0
        none g along = ap (λ t. cond t (count g) (pos 0)) (none_right (ends_of e) (ends_of g) along).0

    past : rise_past count es e p ≡ total_met (λ f. count f *ℤ winding_step (ends_of e) (ends_of f)) es e here
    past = through_told (λ f. count f *ℤ winding_step (ends_of e) (ends_of f)) (λ g along.
        let right = none_right (ends_of e) (ends_of g) along in
        ap₂ (λ s t. count g *ℤ (one_if s -ℤ one_if t)) right.1 right.0
        ∙ solve 1 (λ c. c ⊗ (number (pos 0) ⊖ number (pos 0)) ≗ number (pos 0)) tt (count g))

    -- ---- along e

    -- an edge with an end at p has its meeting point with e there
    end_meets : (g : CountedEdge) → Contains es g → IsEnd (ends_of g) p → IsMeetingPoint (ends_of e) (ends_of g) p
    end_meets g c end = end_is_meeting (ends_of e) (ends_of g) p (place.place.on, on end) (inr end)
      where
        on : IsEnd (ends_of g) p → IsOn (ends_of g) p
        on (inl at) = on_same_place (ends_of g) (before_in es given.forward g c) (in_plane g.a) p
            (same_place_at g.a (in_plane g.a) p (at_itself g.a) at) (start_on (ends_of g))
        on (inr at) = on_same_place (ends_of g) (before_in es given.forward g c) (in_plane g.b) p
            (same_place_at g.b (in_plane g.b) p (at_itself g.b) at) (end_on (ends_of g))

    not_at : (v : Point) → ¬ (IsAt v p) → is_at v p ≡ false
    not_at v apart = false_from_ne_true (is_at v p) (λ t. apart ((Decides-is_at v p).0 t))

    abbrev along_term : CountedEdge → ℤ
    along_term f = cond (are_along (ends_of e) (ends_of f)) (count f *ℤ (one_if (is_at f.a p) -ℤ one_if (is_at f.b p)))
        (pos 0)

    along_met_alone : IsOfMet along_term es e p
    along_met_alone g c other apart = none_under (are_along (ends_of e) (ends_of g))
        (count g *ℤ (one_if (is_at g.a p) -ℤ one_if (is_at g.b p)))
        (ap₂ (λ s t. count g *ℤ (one_if s -ℤ one_if t)) (not_at g.a (λ at. apart (end_meets g c (inl at))))
        (not_at g.b (λ at. apart (end_meets g c (inr at))))
        ∙ solve 1 (λ c. c ⊗ (number (pos 0) ⊖ number (pos 0)) ≗ number (pos 0)) tt (count g))

    as_step : (f : CountedEdge) → along_term f ≡ count f *ℤ along_step (ends_of e) (ends_of f) p
    as_step f = times_under (are_along (ends_of e) (ends_of f)) (count f) (one_if (is_at f.a p) -ℤ one_if (is_at f.b p))

    along : rise_along count es e p ≡ count e *ℤ along_step (ends_of e) (ends_of e) p
        +ℤ total_met (λ f. count f *ℤ along_step (ends_of e) (ends_of f) p) es e here
    along = totals_told es i e ms given from end p place along_term along_met_alone
        ∙ ap₂ (λ y z. y +ℤ z) (as_step e)
        (total-same (λ m. along_term (edge_of_met es i e ms given from end p place m))
        (λ m. count (edge_of_met es i e ms given from end p place m) *ℤ along_step (ends_of e)
        (ends_of (edge_of_met es i e ms given from end p place m)) p) here
        (λ m c. as_step (edge_of_met es i e ms given from end p place m)))

    pub rises_told : TotalsOfMet count es e p here
    rises_told = record { to_right = to_right; from_right = from_right; past = past; along = along }

    -- ---- at an end of e

    -- the edges through p along e that pass a test, where p is an end of e
    module _ (p_end : IsEnd (ends_of e) p) (passes : CountedEdge → Bool)
        (own : passes e ≡ true) where
      abbrev passing : CountedEdge → ℤ
      passing f = cond (is_on (ends_of f) p && are_along (ends_of e) (ends_of f) && passes f) (count f) (pos 0)

      passing_met_alone : IsOfMet passing es e p
      passing_met_alone g c other apart = ⊎_elim
          (λ on. absurd (apart (end_is_meeting (ends_of e) (ends_of g) p (place.place.on, on) (inl p_end))))
          (λ off. ap (λ t. cond (t && are_along (ends_of e) (ends_of g) && passes g) (count g) (pos 0))
          (test_from_off (ends_of g) p off))
          (on_or_off (ends_of g) p)

      passing_told : total passing es ≡ count e
          +ℤ total_met (λ f. cond (are_along (ends_of e) (ends_of f) && passes f) (count f) (pos 0)) es e here
      passing_told =
          totals_told es i e ms given from end p place passing passing_met_alone
          ∙ ap₂ (λ y z. y +ℤ z)
          (ap₂ (λ s t. cond (s && t && passes e) (count e) (pos 0)) (test_from_on (ends_of e) p place.place.on)
          ((Decides-are_along (ends_of e) (ends_of e)).1 (along_itself (ends_of e)))
          ∙ ap (λ t. cond t (count e) (pos 0)) own)
          (total-same (λ m. passing (edge_of_met es i e ms given from end p place m))
          (λ m. let f = edge_of_met es i e ms given from end p place m in
          cond (are_along (ends_of e) (ends_of f) && passes f) (count f) (pos 0)) here
          (λ m c. let f = edge_of_met es i e ms given from end p place m in
          ap (λ t. cond (t && are_along (ends_of e) (ends_of f) && passes f) (count f) (pos 0)) (met_on m c)))

module _ (count : CountedEdge → ℤ) (es : List CountedEdge) (i : ℕ) (e : CountedEdge) (ms : List Met)
    (given : AreMetIn es i e ms) where
  ends_apart : ¬ (e.b ≡ e.a)
  ends_apart same = before_is_other e.a e.b (e_before es i e ms given) (ap (λ v. v.x) same)
      (ap (λ v. v.y) same)

  pub starts_told : (end : ℕ) (place : IsPlaceWith es e ms 0 end (in_plane e.a)) →
      LeadOnFromStart count es e (met es i e ms given 0 end (in_plane e.a) place)
  starts_told end place = passing_told es i e ms given 0 end (in_plane e.a) place count (inl (at_itself e.a))
      (λ f. not (is_at f.b (in_plane e.a)))
      (ap not (not_at es i e ms given 0 end (in_plane e.a) place count e.b (λ at. ends_apart (at_whole e.b e.a at))))

  pub ends_told : (from : ℕ) (place : IsPlaceWith es e ms from (length ms) (in_plane e.b)) →
      ComeUpToEnd count es e (met es i e ms given from (length ms) (in_plane e.b) place)
  ends_told from place = passing_told es i e ms given from (length ms) (in_plane e.b) place count
      (inr (at_itself e.b)) (λ f. not (is_at f.a (in_plane e.b)))
      (ap not (not_at es i e ms given from (length ms) (in_plane e.b) place count e.a
      (λ at. ends_apart (sym (at_whole e.a e.b at)))))
