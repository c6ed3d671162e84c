-- The shapes of contours: the first for all if there is one alone, or those that a sweep finds.
use Rattle.std.proofs.Common.{◌≡◌, ◌≢◌, ℕ, ◌==◌, Bool, List, length, Option, None, Some, sym, ap, ◌∙◌, subst, arith}
use Rattle.std.specs.Prelude.{slice_index_or, MatchBool}
use Rattle.std.specs.List.{All}
use Rattle.std.proofs.lemmas.Bool.{eqb-true, eq-eqb, false_from_ne_true}
use Rattle.std.proofs.lemmas.Option.{slice_get_within}
use Rattle.overlay_plane.specs.BoundContours.{walks_in, known_in, IsParent, AreShapesFound}
use Rattle.overlay_plane.specs.RoledContours.{Contour, stands_in}
use Rattle.overlay_plane.specs.Turn.{Hand}
use Rattle.overlay_plane.proofs.PlacesOfContours.{known_at, place_of_walk}
use Rattle.overlay_extract.specs.Parents.{HasShapeNumber}
use Rattle.overlay_extract.proofs.RolesRead.{outline_count}

module _ (filled : Hand) (contours : List Contour) (shapes : List (Option ℕ))
    (counted : length shapes ≡ length contours) where
  -- the number found for the contour at a place, by whether there is one shape alone
  abbrev IsFoundBy : ℕ → Bool → Type 0
  IsFoundBy i one = MatchBool one (slice_index_or shapes i None ≡ Some 0)
      (IsParent filled contours i (slice_index_or shapes i None))

  pub first_for_all : outline_count contours ≡ 1 → All (λ s. s ≡ Some 0) shapes → AreShapesFound filled contours shapes
  first_for_all one first = record {
    counted = counted;
    found = λ i c at free. subst (IsFoundBy i) (sym (eq-eqb (outline_count contours) 1 one))
        (first i None (let inside = slice_get_within contours i c at in omega (arith, inside, counted)));
  }

  pub each_by_sweep : outline_count contours ≢ 1 →
      ((n : ℕ) → HasShapeNumber filled (walks_in contours) (known_in contours) shapes n) →
      AreShapesFound filled contours shapes
  each_by_sweep several numbered = record {
    counted = counted;
    found = λ i c at free. subst (IsFoundBy i) (sym (false_from_ne_true (outline_count contours == 1)
        (λ one. several (eqb-true (outline_count contours) 1 one))))
        (numbered i c.steps (place_of_walk contours i c at)
        (known_at contours i c at ∙ ap stands_in free));
  }
