-- A number that is found for a contour is that of an outline.
use Rattle.std.proofs.Common.{◌≡◌, ℕ, ◌<◌, Bool, true, false, List, Option, Some, None, refl, sym, ◌∙◌, subst, arith}
use Rattle.std.specs.Prelude.{slice_index_or, MatchBool}
use Rattle.std.specs.List.{slice_get}
use Rattle.std.proofs.lemmas.Bool.{eqb-true}
use Rattle.overlay_plane.specs.Turn.{Hand}
use Rattle.overlay_plane.specs.RoledContours.{Contour, free_hole}
use Rattle.overlay_plane.specs.BoundContours.{IsParent, has_one_shape, AreShapesFound}
use Rattle.overlay_plane.specs.ContourNumbers.{AreNumbers, outline_count}
use Rattle.overlay_plane.proofs.ContourNumbers.{found_counted}
use Rattle.std.proofs.lemmas.Option.{same_Some}

module _ (filled : Hand) (contours : List Contour) (numbered : AreNumbers 0 contours)
    (shapes : List (Option ℕ)) (found : AreShapesFound filled contours shapes) where
  found_by : (one : Bool) → has_one_shape contours ≡ one → (i : ℕ) (shape : Option ℕ) →
      MatchBool one (shape ≡ Some 0) (IsParent filled contours i shape) → (m : ℕ) →
      shape ≡ Some m → m < outline_count contours
  found_by true one i shape is m same =
      let lone = eqb-true (outline_count contours) 1 one in
      let first = same_Some m 0 (sym same ∙ is) in omega (arith, lone, first)
  found_by false one i shape is m same = found_counted filled contours numbered i m
      (subst (IsParent filled contours i) same is)

  pub number_found : (i : ℕ) (c : Contour) → slice_get contours i ≡ Some c → c.role ≡ free_hole → (m : ℕ) →
      slice_index_or shapes i None ≡ Some m → m < outline_count contours
  number_found i c at is m same = found_by (has_one_shape contours) refl i (slice_index_or shapes i None)
      (found.found i c at is) m same
