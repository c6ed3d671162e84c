-- The sums by which the windings beside an edge change at a place, in the form in which a walk computes them.
use Rattle.std.proofs.Common.{◌≡◌, inl, inr, ℕ, false, cond, not, ◌&&◌, ℤ, pos, ◌+ℤ◌, ◌-ℤ◌, ◌*ℤ◌}
use Rattle.std.proofs.Common.{List, Contains, slice_range, sym, ap, ap₂, ◌∙◌}
use Rattle.std.proofs.lemmas.Bool.{false_from_ne_true}
use Rattle.overlay_geom.specs.Edges.{CountedEdge, ends_of}
use Rattle.overlay_geom.specs.Plane.{Point, PlanePoint, IsOn, IsAt, IsEnd, in_plane}
use Rattle.overlay_geom.proofs.Cross.{cross_at_same, cross_at_first}
use Rattle.overlay_geom.proofs.Identities.{solve, number, ◌⊕◌, ◌⊗◌, ◌⊖◌, ◌≗◌}
use Rattle.overlay_geom.proofs.Signs.{linear}
use Rattle.overlay_plane.specs.CutPoints.{are_along}
use Rattle.overlay_plane.specs.EdgeLists.{IsBalanced}
use Rattle.overlay_plane.specs.Meetings.{IsMeetingPoint}
use Rattle.overlay_plane.specs.Regions.{one_if}
use Rattle.overlay_plane.proofs.CommonPoints.{end_is_meeting, Decides-are_along}
use Rattle.overlay_plane.proofs.Ends.{start_on, end_on}
use Rattle.overlay_plane.proofs.NodeWindings.{count-times}
use Rattle.overlay_plane.proofs.PlaceOrder.{on_same_place}
use Rattle.overlay_plane.proofs.Totals.{total-same, total-add}
use Rattle.overlay_plane.proofs.WholeOnEdges.{at_itself, same_place_at, Decides-is_at}
use Rattle.overlay_scaled.specs.BesidePieces.{is_right_of, is_at, rise_past, rise_along}
use Rattle.overlay_exact.specs.Along.{Met}
use Rattle.overlay_exact.specs.MetTotals.{IsOfMet, total_met}
use Rattle.overlay_exact.specs.PlacesAlong.{AreMetIn, IsPlaceWith}
use Rattle.overlay_exact.specs.WindingSteps.{winding_step, along_step}
use Rattle.overlay_exact.proofs.MetRises.{rises_told}
use Rattle.overlay_exact.proofs.MetTotals.{edge_of_met, of_met, totals_told}
use Rattle.overlay_exact.proofs.PiecesFollow.{before_in}
use Rattle.overlay_exact.proofs.PlacesTold.{e_before}
use Rattle.overlay_given.specs.Steps.{leads_on, below_by, above_by}
use Rattle.overlay_given.specs.declared.steps.Stop.TheVariants.{First, Later}
use Rattle.overlay_given.proofs.LeftSteps.{left_steps}
use Rattle.overlay_given.proofs.FirstSteps.{leading_on}

module _ (count : CountedEdge → ℤ) (es : List CountedEdge) (i : ℕ) (e : CountedEdge) (ms : List Met)
    (given : AreMetIn es i e ms) where
  -- ---- past a place

  module _ (balanced : IsBalanced ends_of count es) (from end : ℕ) (p : PlanePoint)
      (place : IsPlaceWith es e ms from end p) where
    abbrev here : List Met
    here = slice_range ms from end

    abbrev met_edge : Met → CountedEdge
    met_edge m = edge_of_met es i e ms given from end p place m

    -- the counts of the edges that end at p, less those of the edges that start there
    abbrev ending : CountedEdge → ℤ
    ending f = count f *ℤ (one_if (is_at f.b p) -ℤ one_if (is_at f.a p))

    not_at : (g : CountedEdge) → Contains es g → (v : Point) → IsOn (ends_of g) (in_plane v) →
        (IsAt v p → IsEnd (ends_of g) p) → ¬ (IsMeetingPoint (ends_of e) (ends_of g) p) → is_at v p ≡ false
    not_at g c v on end none = false_from_ne_true (is_at v p) (λ t.
        let at = (Decides-is_at v p).0 t in
        none (end_is_meeting (ends_of e) (ends_of g) p (
          place.place.on,
          on_same_place (ends_of g) (before_in es given.forward g c) (in_plane v) p
              (same_place_at v (in_plane v) p (at_itself v) at) on,
        ) (inr (end at))))

    ending_met_alone : IsOfMet ending es e p
    ending_met_alone g c other none =
        ap₂ (λ s t. count g *ℤ (one_if s -ℤ one_if t))
        (not_at g c g.b (end_on (ends_of g)) (λ at. inr at) none)
        (not_at g c g.a (start_on (ends_of g)) (λ at. inl at) none)
        ∙ solve 1 (λ c. c ⊗ (number (pos 0) ⊖ number (pos 0)) ≗ number (pos 0)) tt (count g)

    -- in a balanced list they sum up to nothing
    no_ending : ending e +ℤ total_met ending es e here ≡ pos 0
    no_ending = sym (totals_told es i e ms given from end p place ending ending_met_alone)
        ∙ balanced (λ v. one_if (is_at v p))

    -- e itself adds nothing
    own : count e *ℤ along_step (ends_of e) (ends_of e) p +ℤ ending e ≡ pos 0
    own = ap (λ t. count e *ℤ cond t (one_if (is_at e.a p) -ℤ one_if (is_at e.b p)) (pos 0) +ℤ ending e)
        ((Decides-are_along (ends_of e) (ends_of e)).1 (cross_at_first e.a e.b, cross_at_same e.a e.b))
        ∙ solve 3 (λ c s t. c ⊗ (s ⊖ t) ⊕ c ⊗ (t ⊖ s) ≗ number (pos 0)) tt (count e) (one_if (is_at e.a p))
        (one_if (is_at e.b p))

    abbrev right_term : CountedEdge → ℤ
    right_term f = count f *ℤ winding_step (ends_of e) (ends_of f)

    abbrev along_term : CountedEdge → ℤ
    along_term f = count f *ℤ along_step (ends_of e) (ends_of f) p

    abbrev left_term : CountedEdge → ℤ
    left_term f = count f *ℤ above_by Later (ends_of e) (ends_of f)

    -- an edge met adds to the winding above what it adds below and along, and at its ends
    each : (m : Met) → Contains here m →
        (right_term (met_edge m) +ℤ along_term (met_edge m)) +ℤ ending (met_edge m) ≡ left_term (met_edge m)
    each m c =
        let f = met_edge m in
        let of = of_met es i e ms given from end p place m c in
        let is = left_steps (ends_of e) (ends_of f) p (before_in es given.forward f of.among) of.meets.common.0
        of.meets.common.1 in
        solve 4 (λ c r a d. (c ⊗ r ⊕ c ⊗ a) ⊕ c ⊗ d ≗ c ⊗ ((r ⊕ a) ⊕ d)) tt (count f)
        (winding_step (ends_of e) (ends_of f)) (along_step (ends_of e) (ends_of f) p)
        (one_if (is_at f.b p) -ℤ one_if (is_at f.a p))
        ∙ ap (λ z. count f *ℤ z) is

    sums : (total_met right_term es e here +ℤ total_met along_term es e here) +ℤ total_met ending es e here
        ≡ total_met left_term es e here
    sums =
        ap (λ z. z +ℤ total_met ending es e here)
        (sym (total-add (λ m. right_term (met_edge m)) (λ m. along_term (met_edge m)) here))
        ∙ sym (total-add (λ m. right_term (met_edge m) +ℤ along_term (met_edge m)) (λ m. ending (met_edge m)) here)
        ∙ total-same (λ m. (right_term (met_edge m) +ℤ along_term (met_edge m)) +ℤ ending (met_edge m))
        (λ m. left_term (met_edge m)) here each

    pub below_told : rise_past count es e p ≡
        total_met (λ f. count f *ℤ below_by Later (ends_of e) (ends_of f)) es e here
    below_told = (rises_told es i e ms given from end p place count).past

    pub above_told : rise_past count es e p +ℤ rise_along count es e p ≡
        total_met (λ f. count f *ℤ above_by Later (ends_of e) (ends_of f)) es e here
    above_told =
        let told = rises_told es i e ms given from end p place count in
        let past = told.past in
        let along = told.along in
        let none = no_ending in
        let alone = own in
        let all = sums in
        ap₂ (λ y z. y +ℤ z) past along ∙ adds (total_met right_term es e here)
        (count e *ℤ along_step (ends_of e) (ends_of e) p) (total_met along_term es e here) (ending e)
        (total_met ending es e here) none alone ∙ all
      where
        adds : (r c a o d : ℤ) → o +ℤ d ≡ pos 0 → c +ℤ o ≡ pos 0 → r +ℤ (c +ℤ a) ≡ (r +ℤ a) +ℤ d
        adds r c a o d none alone = omega linear

  -- ---- at the start

  module _ (end : ℕ) (place : IsPlaceWith es e ms 0 end (in_plane e.a)) where
    abbrev at_start : List Met
    at_start = slice_range ms 0 end

    abbrev start_edge : Met → CountedEdge
    start_edge m = edge_of_met es i e ms given 0 end (in_plane e.a) place m

    pub right_told : total_met (λ f. cond (is_right_of (ends_of e) f.b) (count f) (pos 0)) es e at_start ≡
        total_met (λ f. count f *ℤ below_by First (ends_of e) (ends_of f)) es e at_start
    right_told = total-same (λ m. cond (is_right_of (ends_of e) (start_edge m).b) (count (start_edge m)) (pos 0))
        (λ m. count (start_edge m) *ℤ one_if (is_right_of (ends_of e) (start_edge m).b)) at_start
        (λ m c. count-times (is_right_of (ends_of e) (start_edge m).b) (count (start_edge m)))

    pub leading_told : total_met (λ f. cond (is_right_of (ends_of e) f.b) (count f) (pos 0)) es e at_start
        +ℤ total_met (λ f. cond (are_along (ends_of e) (ends_of f) && not (is_at f.b (in_plane e.a))) (count f) (pos 0))
        es e at_start
        ≡ total_met (λ f. count f *ℤ above_by First (ends_of e) (ends_of f)) es e at_start
    leading_told =
        sym (total-add (λ m. cond (is_right_of (ends_of e) (start_edge m).b) (count (start_edge m)) (pos 0))
        (λ m. cond (are_along (ends_of e) (ends_of (start_edge m)) && not (is_at (start_edge m).b (in_plane e.a)))
        (count (start_edge m)) (pos 0)) at_start)
        ∙ total-same (λ m. cond (is_right_of (ends_of e) (start_edge m).b) (count (start_edge m)) (pos 0)
        +ℤ cond (are_along (ends_of e) (ends_of (start_edge m)) && not (is_at (start_edge m).b (in_plane e.a)))
        (count (start_edge m)) (pos 0))
        (λ m. count (start_edge m) *ℤ above_by First (ends_of e) (ends_of (start_edge m))) at_start
        (λ m c.
        let f = start_edge m in
        let of = of_met es i e ms given 0 end (in_plane e.a) place m c in
        let leads = leading_on (ends_of e) (ends_of f) (e_before es i e ms given)
        (before_in es given.forward f of.among) of.meets.common.1 in
        ap₂ (λ y z. y +ℤ z) (count-times (is_right_of (ends_of e) f.b) (count f))
        (ap (λ t. cond t (count f) (pos 0)) leads ∙ count-times (leads_on (ends_of e) (ends_of f)) (count f))
        ∙ solve 3 (λ c s t. c ⊗ s ⊕ c ⊗ t ≗ c ⊗ (s ⊕ t)) tt (count f) (one_if (is_right_of (ends_of e) f.b))
        (one_if (leads_on (ends_of e) (ends_of f))))
