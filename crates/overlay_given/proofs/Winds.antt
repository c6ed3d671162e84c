-- The windings beside the pieces of an edge, from its start to its end.
use Rattle.std.proofs.Common.{◌≡◌, ℕ, ℤ, ◌+ℤ◌, ◌*ℤ◌, List, slice_range, sym, ap, ap₂, ◌∙◌}
use Rattle.overlay_geom.specs.Edges.{CountedEdge, ends_of, subj_of, clip_of, winding_by}
use Rattle.overlay_geom.specs.Plane.{PlanePoint, in_plane}
use Rattle.overlay_geom.proofs.Signs.{linear}
use Rattle.overlay_plane.specs.Balance.{HasBalancedCounts}
use Rattle.overlay_plane.specs.EdgeLists.{IsBalanced}
use Rattle.overlay_scaled.specs.Pieces.{IsPiece, IsWithinPiece}
use Rattle.overlay_scaled.specs.Through.{winding_over}
use Rattle.overlay_scaled.proofs.AlongPieces.{counts_along_pieces}
use Rattle.overlay_scaled.proofs.BesidePieces.{windings_beside_pieces}
use Rattle.overlay_scaled.proofs.PastPlaces.{windings_past_a_place}
use Rattle.overlay_exact.specs.Along.{Met}
use Rattle.overlay_exact.specs.MetTotals.{total_met}
use Rattle.overlay_exact.specs.PlacesAlong.{AreMetIn, IsPlaceWith}
use Rattle.overlay_exact.proofs.MetRises.{rises_told, starts_told}
use Rattle.overlay_exact.proofs.PiecesFollow.{pieces_follow}
use Rattle.overlay_given.specs.Beside.{WindBeside}
use Rattle.overlay_given.specs.Laws.{IsSum}
use Rattle.overlay_given.specs.Steps.{below_by, above_by, Rises}
use Rattle.overlay_given.specs.Walk.{WindsFromStart, WindsFrom}
use Rattle.overlay_given.specs.declared.beside.Beside.{Beside}
use Rattle.overlay_given.specs.declared.steps.Stop.{Stop}
use Rattle.overlay_given.specs.declared.steps.Stop.TheVariants.{First, Later}
use Rattle.overlay_given.proofs.RisesTold.{below_told, above_told, right_told, leading_told}

module _ (es : List CountedEdge) (i : ℕ) (e : CountedEdge) (ms : List Met) (given : AreMetIn es i e ms)
    (balanced : HasBalancedCounts es) where
  -- what edges met add to one of the windings
  abbrev pub adds_below : Stop → (CountedEdge → ℤ) → List Met → ℤ
  adds_below at count met = total_met (λ f. count f *ℤ below_by at (ends_of e) (ends_of f)) es e met

  abbrev pub adds_above : Stop → (CountedEdge → ℤ) → List Met → ℤ
  adds_above at count met = total_met (λ f. count f *ℤ above_by at (ends_of e) (ends_of f)) es e met

  -- ---- the first piece

  module _ (count : CountedEdge → ℤ) (even : IsBalanced ends_of count es) (end : ℕ)
      (place : IsPlaceWith es e ms 0 end (in_plane e.a)) (m p : PlanePoint) (piece : IsPiece es e (in_plane e.a) m)
      (within : IsWithinPiece e (in_plane e.a) m p) where
    abbrev start : List Met
    start = slice_range ms 0 end

    first_below : winding_by count es p ≡ winding_by count es (in_plane e.a) +ℤ adds_below First count start
    first_below = (windings_beside_pieces count es given.forward even e (in_plane e.a) m p piece within).from_start
        ∙ ap (λ z. winding_by count es (in_plane e.a) +ℤ z)
        ((rises_told es i e ms given 0 end (in_plane e.a) place count).to_right
        ∙ right_told count es i e ms given end place)

    first_above : winding_over count es p ≡ (winding_by count es (in_plane e.a) +ℤ count e)
        +ℤ adds_above First count start
    first_above =
        let below = (windings_beside_pieces count es given.forward even e (in_plane e.a) m p piece within).from_start in
        let right = (rises_told es i e ms given 0 end (in_plane e.a) place count).to_right in
        let along = (counts_along_pieces count es given.forward e (in_plane e.a) m p piece within).from_start in
        let leading = starts_told count es i e ms given end place in
        let both = leading_told count es i e ms given end place in
        omega linear

  pub winds_from_start : (end : ℕ) → IsPlaceWith es e ms 0 end (in_plane e.a) → (b : Beside) →
      WindsFromStart es e (slice_range ms 0 end) b → WindsFrom es e (in_plane e.a) b
  winds_from_start end place b sums m p piece within = record {
    subj_below = sums.subj_below ∙ sym (first_below subj_of balanced.subj end place m p piece within);
    subj_above = sums.subj_above ∙ sym (first_above subj_of balanced.subj end place m p piece within);
    clip_below = sums.clip_below ∙ sym (first_below clip_of balanced.clip end place m p piece within);
    clip_above = sums.clip_above ∙ sym (first_above clip_of balanced.clip end place m p piece within);
  }

  -- ---- a later piece

  module _ (l next : PlanePoint) (before : IsPiece es e l next) (from end : ℕ)
      (place : IsPlaceWith es e ms from end next) (old sum new : Beside) (winds : WindsFrom es e l old)
      (rises : Rises Later es e (slice_range ms from end) sum) where
    -- a point of the piece before
    inside : (p : PlanePoint) × IsWithinPiece e l next p
    inside = (pieces_follow es given.forward e).some l next before

    there : WindBeside es inside.0 old
    there = winds next inside.0 before inside.1

    module _ (count : CountedEdge → ℤ) (even : IsBalanced ends_of count es) (k s : PlanePoint)
        (piece : IsPiece es e next k) (within : IsWithinPiece e next k s) where
      later_below : winding_by count es s ≡
          winding_by count es inside.0 +ℤ adds_below Later count (slice_range ms from end)
      later_below = (windings_past_a_place count es given.forward even e l next k inside.0 s before piece inside.1
          within).below
          ∙ ap (λ z. winding_by count es inside.0 +ℤ z) (below_told count es i e ms given even from end next place)

      later_above : winding_over count es s ≡
          winding_over count es inside.0 +ℤ adds_above Later count (slice_range ms from end)
      later_above = (windings_past_a_place count es given.forward even e l next k inside.0 s before piece inside.1
          within).above
          ∙ ap (λ z. winding_over count es inside.0 +ℤ z) (above_told count es i e ms given even from end next place)

    pub winds_past : IsSum old sum new → WindsFrom es e next new
    winds_past is k s piece within = record {
      subj_below = is.subj_below ∙ ap₂ (λ y z. y +ℤ z) there.subj_below rises.subj_below
          ∙ sym (later_below subj_of balanced.subj k s piece within);
      subj_above = is.subj_above ∙ ap₂ (λ y z. y +ℤ z) there.subj_above rises.subj_above
          ∙ sym (later_above subj_of balanced.subj k s piece within);
      clip_below = is.clip_below ∙ ap₂ (λ y z. y +ℤ z) there.clip_below rises.clip_below
          ∙ sym (later_below clip_of balanced.clip k s piece within);
      clip_above = is.clip_above ∙ ap₂ (λ y z. y +ℤ z) there.clip_above rises.clip_above
          ∙ sym (later_above clip_of balanced.clip k s piece within);
    }
