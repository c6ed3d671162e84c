-- The holes that are found for a shape, among the contours bound to shapes.
use Rattle.std.proofs.Common.{◌≡◌, ℕ, Bool, true, false, ◌&&◌, List, filter, Contains, Option, Some, None, refl, sym}
use Rattle.std.proofs.Common.{ap, ◌∙◌, subst}
use Rattle.std.specs.Prelude.{slice_index_or, MatchBool}
use Rattle.std.specs.List.{slice_get}
use Rattle.std.proofs.lemmas.Bool.{and_parts, eqb-true, false≢true}
use Rattle.overlay_geom.specs.Plane.{Step}
use Rattle.overlay_plane.specs.Turn.{Hand}
use Rattle.overlay_plane.specs.Binding.{is_number}
use Rattle.overlay_plane.specs.RoledContours.{Role, outline, own_hole, free_hole, Contour, is_free_hole}
use Rattle.overlay_plane.specs.BoundContours.{BoundContour, IsParent, has_one_shape, AreShapesFound, contours_bound}
use Rattle.overlay_plane.specs.BoundContours.{found_holes}
use Rattle.overlay_plane.proofs.BoundSteps.{bound_at}
use Rattle.overlay_plane.proofs.Entries.{Contains-from_filter, Contains-from_map}

-- a number that is some number
number_of_some : (n : ℕ) (shape : Option ℕ) → is_number n shape ≡ true → shape ≡ Some n
number_of_some n None h = absurd (false≢true h)
number_of_some n (Some m) h = ap Some (eqb-true m n h)

role_of_free : (r : Role) → is_free_hole r ≡ true → r ≡ free_hole
role_of_free (outline m) h = absurd (false≢true h)
role_of_free (own_hole m) h = absurd (false≢true h)
role_of_free free_hole h = refl

-- a walk is a hole that is found for a shape
pub record IsFoundFor (filled : Hand) (contours : List Contour) (n : ℕ) (w : List Step) : Type 0 where
  pub contour : Contour
  pub place : ℕ
  pub at : slice_get contours place ≡ Some contour
  pub free : contour.role ≡ free_hole
  pub number : IsParent filled contours place (Some n)
  pub is : contour.steps ≡ w

-- so is each of the found holes of the shape, where there are several shapes
pub hole_found : (filled : Hand) (contours : List Contour) (shapes : List (Option ℕ)) →
    AreShapesFound filled contours shapes → has_one_shape contours ≡ false → (n : ℕ) (w : List Step) →
    Contains (found_holes (contours_bound contours shapes) n) w → IsFoundFor filled contours n w
hole_found filled contours shapes found many n w of_found =
    let bound = contours_bound contours shapes in
    let d = Contains-from_map (λ (e : BoundContour). e.contour.steps)
    (filter (λ (e : BoundContour). is_free_hole e.contour.role && is_number n e.shape) bound) w of_found in
    let passed = Contains-from_filter (λ (e : BoundContour). is_free_hole e.contour.role && is_number n e.shape)
    bound d.0 d.1 in
    let tests = and_parts (is_free_hole d.0.contour.role) (is_number n d.0.shape) passed.1 in
    let place = bound_at contours shapes d.0 passed.0 in
    let free = role_of_free d.0.contour.role tests.0 in
    record {
      contour = d.0.contour;
      place = place.0;
      at = place.1;
      free = free;
      number = by (has_one_shape contours) many place.0 (slice_index_or shapes place.0 None)
          (found.found place.0 d.0.contour place.1 free) (place.2 ∙ number_of_some n d.0.shape tests.1);
      is = d.2;
    }
  where
    by : (one : Bool) → one ≡ false → (i : ℕ) (shape : Option ℕ) →
        MatchBool one (shape ≡ Some 0) (IsParent filled contours i shape) → shape ≡ Some n →
        IsParent filled contours i (Some n)
    by true not_one i shape is same = absurd (false≢true (sym not_one))
    by false not_one i shape is same = subst (IsParent filled contours i) same is
