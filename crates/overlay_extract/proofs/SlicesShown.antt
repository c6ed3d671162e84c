-- What shows the contours of slices in the output direction, in the shapes to which they are bound, is what slicing
-- answers.
use Rattle.std.proofs.Common.{◌≡◌, ⊎_elim, ℕ, Bool, false, ◌*ℤ◌, List, [], ◌∷◌, ◌++◌, map, All}
use Rattle.std.proofs.Common.{Contains}
use Rattle.std.proofs.Common.{Option, refl, sym, ap, ◌∙◌, subst}
use Rattle.std.specs.Int.{Width}
use Rattle.std.specs.List.{filter}
use Rattle.std.specs.List.Sorted.{IsPermutation}
use Rattle.std.proofs.lemmas.Grind.{flat_map-append}
use Rattle.std.proofs.lemmas.List.Elements.{All-map, All-weaker, All-contains, All-filter}
use Rattle.std.proofs.lemmas.List.Sorted.{IsPermutation-sym, IsPermutation-trans}
use Rattle.std.proofs.lemmas.List.Sorted.{All-permutation, Contains-permutation}
use Rattle.overlay_geom.specs.Plane.{Point, Step, points_of}
use Rattle.overlay_geom.specs.Edges.{CountedEdge, subj_of, winding_by}
use Rattle.overlay_geom.specs.Rules.{is_filled}
use Rattle.overlay_geom.specs.declared.fill_rule.FillRule.{FillRule}
use Rattle.overlay_geom.specs.declared.options.ContourDirection.{ContourDirection}
use Rattle.overlay_geom.proofs.Totals.{total-IsPermutation}
use Rattle.overlay_plane.specs.BesideOrbits.{HasEachOnce}
use Rattle.overlay_plane.specs.Binding.{walks_of}
use Rattle.overlay_plane.specs.BoundContours.{BoundContour, walks_in, contours_bound, shapes_bound, NoHoleIsLost}
use Rattle.overlay_plane.specs.Contours.{all_steps, IsContour}
use Rattle.overlay_plane.specs.ContourNumbers.{AreNumbers}
use Rattle.overlay_plane.specs.ContourWindings.{once_round}
use Rattle.overlay_plane.specs.Groups.{HasEachPointOnce, IsSimpleContour}
use Rattle.overlay_plane.specs.MinimumArea.{reaches}
use Rattle.overlay_plane.specs.Nodes.{IsBalancedArrangement}
use Rattle.overlay_plane.specs.RoledContours.{Contour, is_outline}
use Rattle.overlay_plane.specs.ShapeWindings.{points_of_shapes}
use Rattle.overlay_plane.specs.Turn.Hand.{left}
use Rattle.overlay_plane.proofs.AlongLines.{winding_part}
use Rattle.overlay_plane.proofs.BoundSteps.{bound_at, walks_left, shapes_have_each_walk}
use Rattle.overlay_plane.proofs.Entries.{all_of_entries, All-first, Contains-map}
use Rattle.overlay_plane.proofs.KeptWalks.{Each-first, step_of_kept, kept_in_relation}
use Rattle.overlay_plane.proofs.LaterEntries.{Each-from_all_pairs, AllPairs-from_each}
use Rattle.overlay_plane.proofs.LostHoles.{no_hole_lost}
use Rattle.overlay_plane.proofs.PlacesOfContours.{Contains-place}
use Rattle.overlay_plane.proofs.RoledShapes.{all_kept}
use Rattle.overlay_plane.proofs.ShuffledPairs.{once_shuffled}
use Rattle.overlay_plane.proofs.ShuffledSteps.{Differ}
use Rattle.overlay_order.proofs.RuledContents.{zero_is_empty}
use Rattle.overlay_walk.specs.Steps.{filled_hand}
use Rattle.overlay_extract.specs.Bound.{PassesAnchor}
use Rattle.overlay_extract.specs.Loops.{AreLoops}
use Rattle.overlay_extract.specs.Slices.{AreSlices}
use Rattle.overlay_extract.specs.Sliced.{in_direction, slices_shown, left_steps, left_steps_of_shapes, sides_under}
use Rattle.overlay_extract.specs.Sliced.{IsOutlineWithHoles, IsSliced}
use Rattle.overlay_extract.specs.Tours.{LiesInOneOrbit}
use Rattle.overlay_extract.proofs.BoundSlices.{IsBegun, shapes_begun}
use Rattle.overlay_extract.proofs.EachSlice.{each_slice_winds}
use Rattle.overlay_extract.proofs.LoopWindings.{loops_wind}
use Rattle.overlay_extract.proofs.RoledLoops.{roles_numbered, role_passes}
use Rattle.overlay_extract.proofs.RuledLoops.{loops_follow, holes_empty_above}
use Rattle.overlay_extract.proofs.SideWindings.{by_first}
use Rattle.overlay_extract.proofs.SlicedShapes.{shown_each, left_shown, shown_winds, once_where, each_shown_winds}
use Rattle.overlay_extract.proofs.StepCounts.{all_steps_shuffled}
use Rattle.overlay_extract.proofs.TurnedPoints.{left_again, points_once_in, passes_shuffled, orbit_shuffled}

module _ (width : Width) (min : ℕ) (fill : FillRule) (direction : ContourDirection) (es : List CountedEdge)
    (arranged : IsBalancedArrangement subj_of es) (contours : List Contour) (shapes : List (Option ℕ))
    (slices : AreSlices width min fill es contours shapes) where
  abbrev sides : List Step
  sides = sides_under fill es

  abbrev loops : List (List Step)
  loops = slices.contours_are.loops

  abbrev bound : List BoundContour
  bound = contours_bound contours shapes

  abbrev walks : List (List Step)
  walks = walks_of (shapes_bound bound)

  abbrev result : List (List (List Point))
  result = slices_shown direction contours shapes

  -- a contour's points in the output direction, and their steps with the filled side on the left
  abbrev steps_shown : List Step → List Step
  steps_shown w = left_steps direction (in_direction direction (points_of w))

  numbered : AreNumbers 0 contours
  numbered = roles_numbered 0 contours slices.contours_are.roles

  -- ---- the walks of the shapes

  -- what holds of all loops holds of the contours
  of_contours : (P : List Step → Type 0) → All P loops → All P (walks_in contours)
  of_contours P all = subst (All P) (sym slices.contours_are.kept) (All-filter (reaches width min) P loops all)

  split : (lost : List (List Step)) × IsPermutation (walks_in contours) (walks ++ lost)
  split = walks_left left contours numbered shapes slices.bound

  -- and of the walks of the shapes
  of_walks : (P : List Step → Type 0) → All P loops → All P walks
  of_walks P all = All-first P walks split.0
      (All-permutation P (walks_in contours) (walks ++ split.0) split.1 (of_contours P all))

  simple : All IsSimpleContour walks
  simple = of_walks IsSimpleContour slices.contours_are.cut.simple

  one_loop : (w : List Step) → Contains walks w → IsPermutation w (steps_shown w)
  one_loop w c = left_again w (All-contains IsSimpleContour walks w simple c) direction

  -- ---- their steps

  steps_split : IsPermutation (all_steps (walks_in contours)) (all_steps walks ++ all_steps split.0)
  steps_split = subst (IsPermutation (all_steps (walks_in contours)))
      (flat_map-append (λ (w : List Step). w) walks split.0)
      (all_steps_shuffled (walks_in contours) (walks ++ split.0) split.1)

  steps_once : HasEachOnce (all_steps walks)
  steps_once = AllPairs-from_each Differ (all_steps walks) (Each-first Differ (all_steps walks) (all_steps split.0)
      (Each-from_all_pairs Differ (all_steps walks ++ all_steps split.0)
      (once_shuffled (all_steps (walks_in contours)) (all_steps walks ++ all_steps split.0) steps_split
      (subst (λ ws. HasEachOnce (all_steps ws)) (sym slices.contours_are.kept)
      (AllPairs-from_each Differ (all_steps (filter (reaches width min) loops))
      (kept_in_relation Differ (reaches width min) loops
      (Each-from_all_pairs Differ (all_steps loops) slices.contours_are.cut.at_most_once)))))))

  steps_are_sides : All (Contains sides) (all_steps walks)
  steps_are_sides = All-first (Contains sides) (all_steps walks) (all_steps split.0)
      (All-permutation (Contains sides) (all_steps (walks_in contours)) (all_steps walks ++ all_steps split.0)
      steps_split
      (subst (λ ws. All (Contains sides) (all_steps ws)) (sym slices.contours_are.kept)
      (all_of_entries (Contains sides) (all_steps (filter (reaches width min) loops)) (λ s c.
      All-contains (Contains sides) (all_steps loops) s slices.contours_are.cut.are_sides
      (step_of_kept (reaches width min) loops s c)))))

  moved : IsPermutation (all_steps walks) (left_steps_of_shapes direction result)
  moved = left_shown direction (shapes_bound bound) simple

  -- ---- outlines and holes

  abbrev Fits : Bool → List Step → Type 0
  Fits above w = PassesAnchor above (steps_shown w)

  fits : (b : BoundContour) → Contains bound b → Fits (is_outline b.contour.role) b.contour.steps
  fits b c =
      let at = bound_at contours shapes b c in
      let here = Contains-place contours at.0 b.contour at.1 in
      passes_shuffled (is_outline b.contour.role) b.contour.steps (steps_shown b.contour.steps)
      (left_again b.contour.steps (All-contains IsSimpleContour (walks_in contours) b.contour.steps
      (of_contours IsSimpleContour slices.contours_are.cut.simple)
      (Contains-map (λ (d : Contour). d.steps) contours b.contour here)) direction)
      (role_passes 0 contours slices.contours_are.roles b.contour here)

  -- by the points
  begun_shown : (s : List (List Step)) → IsBegun Fits s →
      IsOutlineWithHoles direction (map (in_direction direction) (map points_of s))
  begun_shown [] h = absurd h
  begun_shown (o ∷ hs) h = (
    h.0,
    All-map (λ ps. PassesAnchor false (left_steps direction ps)) (in_direction direction) (map points_of hs)
        (All-map (λ ps. PassesAnchor false (left_steps direction (in_direction direction ps))) points_of hs h.1),
  )

  roles_shown : All (IsOutlineWithHoles direction) result
  roles_shown = All-map (IsOutlineWithHoles direction) (map (in_direction direction))
      (points_of_shapes (shapes_bound bound))
      (All-map (λ ps. IsOutlineWithHoles direction (map (in_direction direction) ps)) (map points_of)
      (shapes_bound bound)
      (All-weaker (IsBegun Fits) (λ s. IsOutlineWithHoles direction (map (in_direction direction) (map points_of s)))
      begun_shown (shapes_bound bound) (shapes_begun Fits bound fits)))

  -- ---- where all are kept

  module _ (all : min ≡ 0) where
    all_loops : AreLoops sides (walks_in contours)
    all_loops = subst (AreLoops sides) (sym (slices.contours_are.kept
        ∙ subst (λ n. filter (reaches width n) loops ≡ loops) (sym all)
        (all_kept width loops (All-weaker IsSimpleContour IsContour (λ w h. h.contour) loops
        slices.contours_are.cut.simple))))
        slices.contours_are.cut

    none_lost : NoHoleIsLost contours shapes
    none_lost = no_hole_lost (by_first (is_filled fill)) subj_of subj_of es left contours
        (loops_follow (is_filled fill) subj_of es arranged (zero_is_empty fill) (walks_in contours) all_loops)
        (holes_empty_above (is_filled fill) subj_of es arranged (zero_is_empty fill) contours slices.contours_are.roles
        all_loops) shapes slices.bound

    all_walks : IsPermutation (all_steps (walks_in contours)) (all_steps walks)
    all_walks = all_steps_shuffled (walks_in contours) walks
        (shapes_have_each_walk left contours numbered shapes slices.bound none_lost)

    all_moved : IsPermutation (all_steps (walks_in contours)) (left_steps_of_shapes direction result)
    all_moved = IsPermutation-trans (all_steps (walks_in contours)) (all_steps walks)
        (left_steps_of_shapes direction result) all_walks moved

  -- ---- the answer

  pub sliced : IsSliced width min fill direction es result
  sliced = record {
    winds = λ all p off. shown_winds p direction (shapes_bound bound) simple
        ∙ ap (λ z. once_round (filled_hand direction) *ℤ z)
        (total-IsPermutation (winding_part p) (all_steps (walks_in contours)) (all_steps walks) (all_walks all)
        ∙ loops_wind (is_filled fill) subj_of es arranged (walks_in contours) (all_loops all) (zero_is_empty fill) p)
        ∙ once_where direction (is_filled fill (winding_by subj_of es p));
    each_alone = λ all. each_shown_winds direction (shapes_bound bound) simple
        (each_slice_winds (is_filled fill) subj_of es arranged (zero_is_empty fill) contours slices.contours_are.roles
        (all_loops all) shapes slices.bound (all_walks all));
    contours = contours;
    shapes = shapes;
    slices = slices;
    shown = refl;
    are_sides = All-permutation (Contains sides) (all_steps walks) (left_steps_of_shapes direction result) moved
        steps_are_sides;
    at_most_once = once_shuffled (all_steps walks) (left_steps_of_shapes direction result) moved steps_once;
    one_orbit = shown_each direction (λ ps. LiesInOneOrbit sides (left_steps direction ps)) (shapes_bound bound)
        (all_of_entries (λ w. LiesInOneOrbit sides (steps_shown w)) walks (λ w c.
        orbit_shuffled sides w (steps_shown w) (one_loop w c) (All-contains (LiesInOneOrbit sides) walks w
        (of_walks (LiesInOneOrbit sides) slices.contours_are.cut.one_orbit) c)));
    points_once = shown_each direction HasEachPointOnce (shapes_bound bound)
        (all_of_entries (λ w. HasEachPointOnce (in_direction direction (points_of w))) walks (λ w c.
        points_once_in w (All-contains IsSimpleContour walks w simple c) direction));
    roles = roles_shown;
    none_lost = none_lost;
    missing = λ all s c. (
      (λ none. ⊎_elim
          (λ d. absurd (none (Contains-permutation (all_steps (walks_in contours))
          (left_steps_of_shapes direction result) s (all_moved all) d)))
          (λ one. one) ((all_loops all).taken s c)),
      (λ one d. (all_loops all).left_out s one (Contains-permutation (left_steps_of_shapes direction result)
          (all_steps (walks_in contours)) s (IsPermutation-sym (all_steps (walks_in contours))
          (left_steps_of_shapes direction result) (all_moved all)) d)),
    );
    balanced = arranged;
  }
