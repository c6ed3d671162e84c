-- The shapes to which all contours are bound wind once or zero times round each point, with each contour thinned or
-- not. A shape that stands alone has the windings of the selected steps.
use Rattle.std.proofs.Common.{◌≡◌, ◌⊎◌, inl, inr, ⊎_elim, ℕ, Bool, true, false, cond, ℤ, pos, List, [], ◌∷◌}
use Rattle.std.proofs.Common.{map}
use Rattle.std.proofs.Common.{Contains, Option, All, refl, sym, ◌∙◌, subst}
use Rattle.std.specs.List.{flat_map}
use Rattle.std.specs.List.Sorted.{IsPermutation}
use Rattle.std.proofs.lemmas.List.Elements.{All-contains, All-nil, All-cons, All-head, All-tail}
use Rattle.overlay_geom.specs.Plane.{Point, Step, steps_of, points_of}
use Rattle.overlay_geom.specs.Edges.{CountedEdge, winding_by}
use Rattle.overlay_geom.proofs.Totals.{total-IsPermutation}
use Rattle.overlay_plane.specs.Turn.{Hand}
use Rattle.overlay_plane.specs.SelectedSteps.{selected_steps}
use Rattle.overlay_plane.specs.BesideOrbits.{HasEachOnce}
use Rattle.overlay_plane.specs.Contours.{all_steps, IsContour}
use Rattle.overlay_plane.specs.ContourWindings.{once_round}
use Rattle.overlay_plane.specs.Binding.{walks_of}
use Rattle.overlay_plane.specs.RoledContours.{Contour}
use Rattle.overlay_plane.specs.BoundContours.{BoundContour, AreShapesFound, contours_bound}
use Rattle.overlay_plane.specs.BoundContours.{shapes_bound}
use Rattle.overlay_plane.specs.KeptContours.{AreKeptContours, KeepsAll}
use Rattle.overlay_plane.specs.ShapeWindings.{points_of_shapes, AreKeptOrThinned}
use Rattle.overlay_plane.specs.ShapesAlone.{WindsOnceOrNot, EachWindsOnceOrNot, EachShapeWindsOnceOrNot}
use Rattle.overlay_plane.proofs.AlongLines.{winding_part}
use Rattle.overlay_plane.proofs.BoundSteps.{walks_are_contours, each_step}
use Rattle.overlay_plane.proofs.CutWindings.{thinned_contours_wind_alike}
use Rattle.overlay_plane.proofs.EachOfShapes.{each_winds}
use Rattle.overlay_plane.proofs.EachAlone.{shape_winds}
use Rattle.overlay_plane.proofs.Entries.{all_of_entries, Contains-from_map, Contains-flat_map}
use Rattle.overlay_plane.proofs.ResultWindings.{steps_of_contours}
use Rattle.overlay_plane.proofs.SelectedWindings.{selected_steps_wind, selected_steps_once}
use Rattle.overlay_plane.proofs.ShapeSteps.{steps_of_all}
use Rattle.overlay_plane.proofs.ShuffledPairs.{once_shuffled}

-- once or not
wanted_or_not : (t : Bool) (filled : Hand) →
    (cond t (once_round filled) (pos 0) ≡ once_round filled) ⊎ (cond t (once_round filled) (pos 0) ≡ pos 0)
wanted_or_not true filled = inl refl
wanted_or_not false filled = inr refl

-- shapes taken as they are or thinned wind alike, one by one
taken_wind : (filled : Hand) (as_given : Bool) (given taken : List (List (List Point))) →
    AreKeptOrThinned as_given given taken → EachWindsOnceOrNot filled given → EachWindsOnceOrNot filled taken
taken_wind filled as_given [] [] each winds = All-nil (λ shape. WindsOnceOrNot filled (flat_map steps_of shape))
taken_wind filled as_given [] (t ∷ ts) each winds = absurd each
taken_wind filled as_given (g ∷ gs) [] each winds = absurd each
taken_wind filled as_given (g ∷ gs) (t ∷ ts) each winds =
    All-cons (λ shape. WindsOnceOrNot filled (flat_map steps_of shape)) t ts
    (λ p. let same = thinned_contours_wind_alike as_given g t each.0 p in
    ⊎_elim (λ is. inl (same ∙ is)) (λ is. inr (same ∙ is))
    (All-head (λ shape. WindsOnceOrNot filled (flat_map steps_of shape)) g gs winds p))
    (taken_wind filled as_given gs ts each.1
    (All-tail (λ shape. WindsOnceOrNot filled (flat_map steps_of shape)) g gs winds))

module _ (holds : ℤ → ℤ → Bool) (subj clip : CountedEdge → ℤ) (es : List CountedEdge) (filled : Hand)
    (in_groups : Bool) (keeps : List Step → Bool) (contours : List Contour)
    (kept : AreKeptContours holds subj clip es filled in_groups keeps contours) (all : KeepsAll keeps)
    (shapes : List (Option ℕ)) (found : AreShapesFound filled contours shapes) where
  abbrev steps : List Step
  steps = selected_steps holds subj clip filled es

  abbrev bound : List BoundContour
  bound = contours_bound contours shapes

  all_contours : All IsContour (walks_of (shapes_bound bound))
  all_contours = walks_are_contours holds subj clip es filled in_groups keeps contours kept shapes found all

  -- the shapes have the selected steps
  shuffled : IsPermutation steps (all_steps (walks_of (shapes_bound bound)))
  shuffled = subst (IsPermutation steps) (steps_of_all (shapes_bound bound) all_contours)
      (each_step holds subj clip es filled in_groups keeps contours kept shapes found all)

  -- once each, and wind as these
  once : HasEachOnce (all_steps (walks_of (shapes_bound bound)))
  once = once_shuffled steps (all_steps (walks_of (shapes_bound bound))) shuffled
      (selected_steps_once holds subj clip es kept.ruled filled)

  together : WindsOnceOrNot filled (all_steps (walks_of (shapes_bound bound)))
  together p = subst (λ z. (z ≡ once_round filled) ⊎ (z ≡ pos 0))
      (sym (total-IsPermutation (winding_part p) steps (all_steps (walks_of (shapes_bound bound))) shuffled
      ∙ selected_steps_wind holds subj clip es kept.ruled filled p))
      (wanted_or_not (holds (winding_by subj es p) (winding_by clip es p)) filled)

  -- each shape winds once or not
  each : (shape : List (List Step)) → Contains (shapes_bound bound) shape → WindsOnceOrNot filled (all_steps shape)
  each = each_winds filled contours shapes found once together
      (λ many b. shape_winds holds subj clip es filled in_groups keeps contours kept all shapes found many b)

  -- and so do its points
  points_wind : EachWindsOnceOrNot filled (points_of_shapes (shapes_bound bound))
  points_wind = all_of_entries (λ shape. WindsOnceOrNot filled (flat_map steps_of shape))
      (points_of_shapes (shapes_bound bound)) (λ ps c.
      let shape = Contains-from_map (map points_of) (shapes_bound bound) ps c in
      subst (λ qs. WindsOnceOrNot filled (flat_map steps_of qs)) shape.2
      (subst (WindsOnceOrNot filled) (sym (steps_of_contours shape.0 (its_contours shape.0 shape.1)))
      (each shape.0 shape.1)))
    where
      its_contours : (shape : List (List Step)) → Contains (shapes_bound bound) shape → All IsContour shape
      its_contours shape c = all_of_entries IsContour shape
          (λ w d. All-contains IsContour (walks_of (shapes_bound bound)) w all_contours
          (Contains-flat_map (λ (s : List (List Step)). s) (shapes_bound bound) shape w c d))

-- the law
pub each_shape_winds_once_or_not : EachShapeWindsOnceOrNot
each_shape_winds_once_or_not holds subj clip es filled in_groups keeps contours kept all shapes found as_given result
    shown =
    taken_wind filled as_given (points_of_shapes (shapes_bound (contours_bound contours shapes))) result shown
    (points_wind holds subj clip es filled in_groups keeps contours kept all shapes found)
