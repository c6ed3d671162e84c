-- The shapes to which contours are bound have each contour once, if no hole is lost. So the shapes of a cut, in groups
-- or without, have each selected step once, and equal windings, also thinned.
use Rattle.std.proofs.Common.{◌≡◌, ⊎_elim, ℕ, suc, ◌<◌, Bool, false, ℤ, List, [], ◌∷◌, ◌++◌, All, map}
use Rattle.std.proofs.Common.{length, Contains, Option, Some, None, refl, sym, ap, ◌∙◌, subst, arith}
use Rattle.std.specs.Prelude.{slice_index_or}
use Rattle.std.specs.List.{filter, flat_map, slice_get}
use Rattle.std.specs.List.Sorted.{IsPermutation}
use Rattle.std.proofs.lemmas.Bool.{false≢true}
use Rattle.std.proofs.lemmas.List.Folds.{flat_map-map}
use Rattle.std.proofs.lemmas.List.Sorted.{IsPermutation-trans, All-permutation}
use Rattle.std.proofs.lemmas.Option.{none-some}
use Rattle.overlay_geom.specs.Plane.{Step}
use Rattle.overlay_geom.specs.Edges.{CountedEdge}
use Rattle.overlay_geom.proofs.Totals.{total-IsPermutation}
use Rattle.overlay_plane.specs.Turn.{Hand}
use Rattle.overlay_plane.specs.SelectedSteps.{selected_steps}
use Rattle.overlay_plane.specs.Contours.{all_steps, IsContour}
use Rattle.overlay_plane.specs.Binding.{walks_of}
use Rattle.overlay_plane.specs.RoledContours.{Role, outline, own_hole, free_hole, Contour, stands_in, is_outline}
use Rattle.overlay_plane.specs.BoundContours.{BoundContour, walks_in, AreShapesFound, NoHoleIsLost}
use Rattle.overlay_plane.specs.BoundContours.{contours_bound, shapes_bound}
use Rattle.overlay_plane.specs.ContourNumbers.{AreNumbers, outline_count}
use Rattle.overlay_plane.specs.ShapeWindings.{steps_of_shapes, points_of_shapes}
use Rattle.overlay_plane.specs.KeptContours.{AreKeptContours, KeepsAll, AllShapesHaveEachStep, AllShapesWind}
use Rattle.overlay_plane.specs.Parents.{ShapesHaveEachWalk}
use Rattle.overlay_plane.proofs.AlongLines.{winding_part}
use Rattle.overlay_plane.proofs.BoundShapes.{number_by, is_lost, parts_split, parts_alike}
use Rattle.overlay_plane.proofs.ContourNumbers.{number_counted, cut_numbered}
use Rattle.overlay_plane.proofs.FoundNumbers.{number_found}
use Rattle.overlay_plane.proofs.FreeHoles.{all_holes_have_shapes}
use Rattle.overlay_plane.proofs.KeptContours.{can_be_bound, each_taken_once}
use Rattle.overlay_plane.proofs.LaterEntries.{Contains-cases}
use Rattle.overlay_plane.proofs.PlacesOfContours.{Contains-place}
use Rattle.overlay_plane.proofs.SelectedWindings.{selected_steps_wind}
use Rattle.overlay_plane.proofs.ShapeSteps.{single_parts, steps_of_all, thinned_shapes_wind_alike}

-- bound contours are the contours
pub bound_again : (contours : List Contour) (shapes : List (Option ℕ)) → length shapes ≡ length contours →
    map (λ (b : BoundContour). b.contour) (contours_bound contours shapes) ≡ contours
bound_again [] shapes counted = refl
bound_again (c ∷ cs) [] counted = absurd (omega (arith, counted))
bound_again (c ∷ cs) (s ∷ shapes) counted = ap (λ ds. c ∷ ds) (bound_again cs shapes (omega (arith, counted)))

-- each stands at a place, with the shape there
pub bound_at : (contours : List Contour) (shapes : List (Option ℕ)) (b : BoundContour) →
    Contains (contours_bound contours shapes) b →
    (i : ℕ) × (slice_get contours i ≡ Some b.contour) × (slice_index_or shapes i None ≡ b.shape)
bound_at [] shapes b at = absurd (elim at.1 [ ])
bound_at (c ∷ cs) [] b at = absurd (elim at.1 [ ])
bound_at (c ∷ cs) (s ∷ shapes) b at = ⊎_elim
    (λ is. (0, ap (λ (d : BoundContour). Some d.contour) is, ap (λ (d : BoundContour). d.shape) is))
    (λ later. let found = bound_at cs shapes b later in (suc found.0, found.1, found.2))
    (Contains-cases (record { contour = c; shape = s }) (contours_bound cs shapes) b at)

-- ---- contours with numbers in order, and the shapes found for them

module _ (filled : Hand) (contours : List Contour) (numbered : AreNumbers 0 contours) (shapes : List (Option ℕ))
    (found : AreShapesFound filled contours shapes) where
  abbrev bound : List BoundContour
  bound = contours_bound contours shapes

  again : map (λ (b : BoundContour). b.contour) bound ≡ contours
  again = bound_again contours shapes found.counted

  -- each number of a hole is that of an outline
  number_below : (b : BoundContour) → Contains bound b → is_outline b.contour.role ≡ false → (m : ℕ) →
      number_by b.contour.role b.shape ≡ Some m → m < outline_count contours
  number_below b c = by b.contour.role refl
    where
      at : (i : ℕ) × (slice_get contours i ≡ Some b.contour) × (slice_index_or shapes i None ≡ b.shape)
      at = bound_at contours shapes b c

      by : (r : Role) → b.contour.role ≡ r → is_outline r ≡ false → (m : ℕ) → number_by r b.shape ≡ Some m →
          m < outline_count contours
      by (outline n) is hole m same = absurd (false≢true (sym hole))
      by (own_hole n) is hole m same = let counted = number_counted 0 contours numbered b.contour
          (Contains-place contours at.0 b.contour at.1) m (ap stands_in is ∙ same) in omega arith
      by free_hole is hole m same = number_found filled contours numbered shapes found at.0 b.contour at.1 is m
          (at.2 ∙ same)

  -- the contours' parts are those of the bound contours
  bound_parts : {Y : Type 0} (f : List Step → List Y) →
      flat_map (λ (b : BoundContour). f b.contour.steps) bound ≡ flat_map f (walks_in contours)
  bound_parts f = sym (flat_map-map (λ (c : Contour). f c.steps) (λ (b : BoundContour). b.contour) bound)
      ∙ ap (flat_map (λ (c : Contour). f c.steps)) again
      ∙ sym (flat_map-map f (λ (c : Contour). c.steps) contours)

  -- the numbers, of the contours as they are bound
  numbered_again : AreNumbers 0 (map (λ (b : BoundContour). b.contour) bound)
  numbered_again = subst (AreNumbers 0) (sym again) numbered

  below_again : (b : BoundContour) → Contains bound b → is_outline b.contour.role ≡ false → (m : ℕ) →
      number_by b.contour.role b.shape ≡ Some m → m < outline_count (map (λ (d : BoundContour). d.contour) bound)
  below_again = subst (λ cs. (b : BoundContour) → Contains bound b → is_outline b.contour.role ≡ false → (m : ℕ) →
      number_by b.contour.role b.shape ≡ Some m → m < outline_count cs) (sym again) number_below

  -- the shapes have the parts of the contours but of those that are left out
  pub parts_left : {Y : Type 0} (f : List Step → List Y) →
      (lost : List Y) × IsPermutation (flat_map f (walks_in contours))
      (flat_map f (walks_of (shapes_bound bound)) ++ lost)
  parts_left {Y} f = (
    lost,
    subst (λ ys. IsPermutation ys (flat_map f (walks_of (shapes_bound bound)) ++ lost))
        (bound_parts f) (parts_split f bound numbered_again below_again),
  )
    where
      lost : List Y
      lost = flat_map (λ (b : BoundContour). f b.contour.steps) (filter (is_lost f bound) bound)

  -- the shapes have the contours but those that are left out
  pub walks_left : (lost : List (List Step)) × IsPermutation (walks_in contours)
      (walks_of (shapes_bound bound) ++ lost)
  walks_left = let rest = parts_left (λ w. w ∷ []) in (
    rest.0,
    subst (λ ws. IsPermutation ws (walks_of (shapes_bound bound) ++ rest.0)) (single_parts (walks_in contours))
        (subst (λ ws. IsPermutation (flat_map (λ (w : List Step). w ∷ []) (walks_in contours)) (ws ++ rest.0))
        (single_parts (walks_of (shapes_bound bound))) rest.1),
  )

  module _ (none_lost : NoHoleIsLost contours shapes) where
    -- each hole has a number
    has_number : (b : BoundContour) → Contains bound b → is_outline b.contour.role ≡ false →
        ¬ (number_by b.contour.role b.shape ≡ None)
    has_number b c = by b.contour.role refl
      where
        at : (i : ℕ) × (slice_get contours i ≡ Some b.contour) × (slice_index_or shapes i None ≡ b.shape)
        at = bound_at contours shapes b c

        by : (r : Role) → b.contour.role ≡ r → is_outline r ≡ false → ¬ (number_by r b.shape ≡ None)
        by (outline n) is hole same = false≢true (sym hole)
        by (own_hole n) is hole same = none-some n (sym same)
        by free_hole is hole same = none_lost at.0 b.contour at.1 is (at.2 ∙ same)

    -- the shapes have all of the contours' parts
    pub all_parts : {Y : Type 0} (f : List Step → List Y) →
        IsPermutation (flat_map f (walks_in contours)) (flat_map f (walks_of (shapes_bound bound)))
    all_parts f = subst (λ ys. IsPermutation ys (flat_map f (walks_of (shapes_bound bound)))) (bound_parts f)
        (parts_alike f bound numbered_again below_again has_number)

-- the shapes have each contour once
pub shapes_have_each_walk : ShapesHaveEachWalk
shapes_have_each_walk filled contours numbered shapes found none_lost =
    subst (λ ws. IsPermutation ws walks) (single_parts (walks_in contours))
    (subst (IsPermutation (flat_map (λ (w : List Step). w ∷ []) (walks_in contours))) (single_parts walks)
    (all_parts filled contours numbered shapes found none_lost (λ w. w ∷ [])))
  where
    walks : List (List Step)
    walks = walks_of (shapes_bound (contours_bound contours shapes))

-- ---- where all contours of a cut are kept

module _ (holds : ℤ → ℤ → Bool) (subj clip : CountedEdge → ℤ) (es : List CountedEdge) (filled : Hand)
    (in_groups : Bool) (keeps : List Step → Bool) (contours : List Contour)
    (kept : AreKeptContours holds subj clip es filled in_groups keeps contours)
    (shapes : List (Option ℕ)) (found : AreShapesFound filled contours shapes) (all : KeepsAll keeps) where
  abbrev steps : List Step
  steps = selected_steps holds subj clip filled es

  abbrev shapes_of_steps : List (List (List Step))
  shapes_of_steps = shapes_bound (contours_bound contours shapes)

  numbered : AreNumbers 0 contours
  numbered = cut_numbered in_groups filled keeps steps contours kept.cut

  none_lost : NoHoleIsLost contours shapes
  none_lost = all_holes_have_shapes holds subj clip es filled in_groups keeps contours kept all shapes found

  -- each of the shapes' walks is a contour
  pub walks_are_contours : All IsContour (walks_of shapes_of_steps)
  walks_are_contours = All-permutation IsContour (walks_in contours) (walks_of shapes_of_steps)
      (shapes_have_each_walk filled contours numbered shapes found none_lost)
      (can_be_bound holds subj clip es filled in_groups keeps contours kept).contours

  pub each_step : IsPermutation steps (steps_of_shapes (points_of_shapes shapes_of_steps))
  each_step = subst (IsPermutation steps) (sym (steps_of_all shapes_of_steps walks_are_contours))
      (IsPermutation-trans steps (all_steps (walks_in contours)) (all_steps (walks_of shapes_of_steps))
      (each_taken_once holds subj clip es filled in_groups keeps contours kept all)
      (all_parts filled contours numbered shapes found none_lost (λ (w : List Step). w)))

-- the shapes have each selected step once
pub all_shapes_have_each_step : AllShapesHaveEachStep
all_shapes_have_each_step holds subj clip es filled in_groups keeps contours kept all shapes found =
    each_step holds subj clip es filled in_groups keeps contours kept shapes found all

-- the shapes have the windings of the contours
pub all_shapes_wind : AllShapesWind
all_shapes_wind holds subj clip es filled in_groups keeps contours kept all shapes found as_given result shown p =
    thinned_shapes_wind_alike as_given (points_of_shapes (shapes_bound (contours_bound contours shapes))) result shown p
    ∙ total-IsPermutation (winding_part p) (selected_steps holds subj clip filled es)
    (steps_of_shapes (points_of_shapes (shapes_bound (contours_bound contours shapes))))
    (each_step holds subj clip es filled in_groups keeps contours kept shapes found all)
    ∙ selected_steps_wind holds subj clip es kept.ruled filled p
