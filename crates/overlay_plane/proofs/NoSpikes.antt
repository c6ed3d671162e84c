-- The contours of steps that alternate have no spikes, since no step leads back along the step before. So each list of
-- them is shown in one way.
use Rattle.std.proofs.Common.{◌≡◌, ℕ, ◌+◌, ◌-◌, ◌<◌, ◌%◌, Bool, true, false, ℤ, pos, ◌+ℤ◌, ◌-ℤ◌, ◌*ℤ◌, ◌<ℤ◌, List, []}
use Rattle.std.proofs.Common.{◌∷◌}
use Rattle.std.proofs.Common.{◌++◌, map, length, Contains, Option, refl, sym, ap, ap₂, subst, ◌∙◌, arith}
use Rattle.std.specs.Prelude.{slice_index_or}
use Rattle.std.specs.List.{All, AllZip}
use Rattle.std.specs.List.Sorted.{IsPermutation}
use Rattle.std.proofs.Math.ListN.{get_or-map}
use Rattle.std.proofs.lemmas.List.{length-map}
use Rattle.std.proofs.lemmas.List.Elements.{All-contains, All-map, All-weaker, All-head, All-tail, Contains-append_left}
use Rattle.std.proofs.lemmas.List.Sorted.{Contains-permutation, IsPermutation-sym}
use Rattle.overlay_geom.specs.Plane.{Point, Step, cross_at, points_of}
use Rattle.overlay_geom.specs.Edges.{CountedEdge}
use Rattle.overlay_geom.specs.Thinned.{IsKeptOrThinned, IsStraightAt, point_round}
use Rattle.overlay_geom.proofs.Cross.{crossE}
use Rattle.overlay_geom.proofs.Identities.{solve, ◌⊕◌, ◌⊗◌, ◌⊖◌, ⊝◌, ◌≗◌}
use Rattle.overlay_geom.proofs.Signs.{linear, by_sign, mul-pos, mul-zero}
use Rattle.overlay_plane.specs.Alternates.{Alternates, AreOneWay}
use Rattle.overlay_plane.specs.Binding.{walks_of}
use Rattle.overlay_plane.specs.BoundContours.{walks_in, contours_bound, shapes_bound, AreShapesFound}
use Rattle.overlay_plane.specs.Contours.{IsContour, all_steps}
use Rattle.overlay_plane.specs.KeptContours.{AreKeptContours, KeptContoursHaveNoSpikes}
use Rattle.overlay_plane.specs.RoledContours.{Contour}
use Rattle.overlay_plane.specs.SelectedSteps.{selected_steps}
use Rattle.overlay_plane.specs.ShapeWindings.{points_of_shapes, AreKeptOrThinned}
use Rattle.overlay_plane.specs.Thinning.{ahead, HasNoSpikes}
use Rattle.overlay_plane.specs.Turn.{Hand, dot_at, step_round, no_step}
use Rattle.overlay_plane.proofs.ContourSteps.{contour_long, some_step}
use Rattle.overlay_plane.proofs.CutWindings.{selected_alternate}
use Rattle.overlay_plane.proofs.BoundSteps.{walks_left}
use Rattle.overlay_plane.proofs.ContourNumbers.{cut_numbered}
use Rattle.overlay_plane.proofs.Entries.{all_of_entries, Contains-flat_map}
use Rattle.overlay_plane.proofs.FourInARow.{square, squareE, aheadE, square_of_different}
use Rattle.overlay_plane.proofs.ItemsRound.{item_round-round, Contains-item_round}
use Rattle.overlay_plane.proofs.KeptContours.{can_be_bound, kept_selected}
use Rattle.overlay_plane.proofs.ThinnedOnce.{one_thinning_without_spikes}

-- ---- one contour

-- two collinear steps go on unless the second leads back
goes_on : (u v w : Point) → ¬ (u ≡ v) → ¬ (v ≡ w) → cross_at u v w ≡ pos 0 → ¬ (AreOneWay v u w) →
    pos 0 <ℤ ahead u v w
goes_on u v w first second line not_back = by_sign (ahead u v w)
    (λ neg.
    let cross = solve 6 (λ ux uy vx vy wx wy. crossE vx vy ux uy wx wy ≗ ⊝ crossE ux uy vx vy wx wy) tt u.x u.y v.x v.y
    w.x w.y in
    let back = solve 6 (λ ux uy vx vy wx wy. (ux ⊖ vx) ⊗ (wx ⊖ vx) ⊕ (uy ⊖ vy) ⊗ (wy ⊖ vy) ≗ ⊝ aheadE ux uy vx vy wx wy)
    tt u.x u.y v.x v.y w.x w.y in
    absurd (not_back (record { on_line = omega linear; ahead = omega linear })))
    (λ none.
    let both = solve 6 (λ ux uy vx vy wx wy. squareE ux uy vx vy ⊗ squareE vx vy wx wy ≗
    aheadE ux uy vx vy wx wy ⊗ aheadE ux uy vx vy wx wy ⊕ crossE ux uy vx vy wx wy ⊗ crossE ux uy vx vy wx wy) tt
    u.x u.y v.x v.y w.x w.y in
    let some = mul-pos (square u v) (square v w) (square_of_different u v first) (square_of_different v w second) in
    let no_step = mul-zero (ahead u v w) (ahead u v w) none in
    let no_turn = mul-zero (cross_at u v w) (cross_at u v w) line in
    absurd (omega linear))
    (λ on. on)

module _ (steps : List Step) (alternate : Alternates steps) (walk : List Step) (contour : IsContour walk)
    (inside : (s : Step) → Contains walk s → Contains steps s) where
  size : length (points_of walk) ≡ length walk
  size = length-map walk (λ (s : Step). s.from)

  -- the points round a contour are the starts of its steps
  start_round : (k : ℕ) → point_round (points_of walk) k ≡ (step_round walk k).from
  start_round k = ap (λ n. point_at (k % n)) size ∙ get_or-map (λ (s : Step). s.from) walk (k % length walk) no_step
    where
      point_at : ℕ → Point
      point_at j = slice_index_or (points_of walk) j (record { x = pos 0; y = pos 0 })

  in_walk : (k : ℕ) → Contains walk (step_round walk k)
  in_walk k = Contains-item_round walk no_step k (some_step walk contour)

  -- the way goes on where the step before and the step from a place are collinear
  on_at : (k : ℕ) → cross_at (step_round walk (k + length walk - 1)).from (step_round walk k).from
      (step_round walk (k + 1)).from ≡ pos 0 → pos 0 <ℤ ahead (step_round walk (k + length walk - 1)).from
      (step_round walk k).from (step_round walk (k + 1)).from
  on_at k line =
      let some = some_step walk contour in
      let j = k + length walk - 1 in
      let place : j + 1 ≡ length walk + k = omega arith in
      let met : (step_round walk j).to ≡ (step_round walk k).from = sym (contour.leads_on j)
      ∙ ap (λ i. (step_round walk i).from) place
      ∙ ap (λ (s : Step). s.from) (item_round-round walk no_step k) in
      goes_on (step_round walk j).from (step_round walk k).from (step_round walk (k + 1)).from
      (λ same. contour_long walk contour (step_round walk j) (in_walk j) (same ∙ sym met))
      (λ same. contour_long walk contour (step_round walk k) (in_walk k) (same ∙ contour.leads_on k))
      line
      (λ back. alternate.none_both (step_round walk j) (step_round walk k) (inside (step_round walk j) (in_walk j))
      (inside (step_round walk k) (in_walk k)) met
      (subst (λ v. AreOneWay v (step_round walk j).from (step_round walk k).to) (sym met)
      (subst (λ w. AreOneWay (step_round walk k).from (step_round walk j).from w) (contour.leads_on k) back)))

  pub contour_without_spikes : HasNoSpikes (points_of walk)
  contour_without_spikes k within line =
      let before = ap (λ n. point_round (points_of walk) (k + n - 1)) size
      ∙ start_round (k + length walk - 1) in
      let here = start_round k in
      let after = start_round (k + 1) in
      subst (λ u. pos 0 <ℤ ahead u (point_round (points_of walk) k) (point_round (points_of walk) (k + 1))) (sym before)
      (subst (λ v. pos 0 <ℤ ahead (step_round walk (k + length walk - 1)).from v (point_round (points_of walk) (k + 1)))
      (sym here)
      (subst (λ w. pos 0 <ℤ ahead (step_round walk (k + length walk - 1)).from (step_round walk k).from w) (sym after)
      (on_at k
      (subst (λ w. cross_at (step_round walk (k + length walk - 1)).from (step_round walk k).from w ≡ pos 0) after
      (subst
      (λ v. cross_at (step_round walk (k + length walk - 1)).from v (point_round (points_of walk) (k + 1)) ≡ pos 0)
      here
      (subst (λ u. cross_at u (point_round (points_of walk) k) (point_round (points_of walk) (k + 1)) ≡ pos 0) before
      line))))))

-- ---- kept contours

module _ (holds : ℤ → ℤ → Bool) (subj clip : CountedEdge → ℤ) (es : List CountedEdge) (filled : Hand)
    (in_groups : Bool) (keeps : List Step → Bool) (contours : List Contour)
    (kept : AreKeptContours holds subj clip es filled in_groups keeps contours) where
  -- each contour that is kept has none
  walk_without : (w : List Step) → Contains (walks_in contours) w → HasNoSpikes (points_of w)
  walk_without w c = contour_without_spikes (selected_steps holds subj clip filled es)
      (selected_alternate holds subj clip es kept.ruled filled) w
      (All-contains IsContour (walks_in contours) w
      (can_be_bound holds subj clip es filled in_groups keeps contours kept).contours c)
      (λ s d. kept_selected holds subj clip es filled in_groups keeps contours kept s
      (Contains-flat_map (λ (v : List Step). v) (walks_in contours) w s c d))

  pub kept_without : All (λ w. HasNoSpikes (points_of w)) (walks_in contours)
  kept_without = all_of_entries (λ w. HasNoSpikes (points_of w)) (walks_in contours) walk_without

  -- nor has one of the shapes to which they are bound
  pub shapes_without : (shapes : List (Option ℕ)) → AreShapesFound filled contours shapes →
      All (All HasNoSpikes) (points_of_shapes (shapes_bound (contours_bound contours shapes)))
  shapes_without shapes found = All-map (All HasNoSpikes) (map points_of) bound (all_of_entries
      (λ shape. All HasNoSpikes (map points_of shape)) bound (λ shape c. All-map HasNoSpikes points_of shape
      (all_of_entries (λ w. HasNoSpikes (points_of w)) shape (λ w d. walk_without w
      (Contains-permutation (walks ++ left.0) (walks_in contours) w
      (IsPermutation-sym (walks_in contours) (walks ++ left.0) left.1)
      (Contains-append_left walks left.0 w (Contains-flat_map (λ (s : List (List Step)). s) bound shape w c d)))))))
    where
      bound : List (List (List Step))
      bound = shapes_bound (contours_bound contours shapes)

      walks : List (List Step)
      walks = walks_of (shapes_bound (contours_bound contours shapes))

      left : (lost : List (List Step)) × IsPermutation (walks_in contours)
          (walks_of (shapes_bound (contours_bound contours shapes)) ++ lost)
      left = walks_left filled contours (cut_numbered in_groups filled keeps
          (selected_steps holds subj clip filled es) contours kept.cut) shapes found

pub kept_contours_have_no_spikes : KeptContoursHaveNoSpikes
kept_contours_have_no_spikes holds subj clip es filled in_groups keeps contours kept =
    kept_without holds subj clip es filled in_groups keeps contours kept

-- ---- lists shown

-- a closed list without spikes is taken in one way
one_taken : (keep : Bool) (given first second : List Point) → HasNoSpikes given → IsKeptOrThinned keep given first →
    IsKeptOrThinned keep given second → first ≡ second
one_taken true given first second none a b = a ∙ sym b
one_taken false given first second none a b = one_thinning_without_spikes given none first second a b

-- so is a list of them
pub one_shown : (keep : Bool) (given first second : List (List Point)) → All HasNoSpikes given →
    AllZip (IsKeptOrThinned keep) given first → AllZip (IsKeptOrThinned keep) given second → first ≡ second
one_shown keep [] [] [] none a b = refl
one_shown keep [] [] (t ∷ ts) none a b = absurd b
one_shown keep [] (s ∷ ss) second none a b = absurd a
one_shown keep (g ∷ gs) [] second none a b = absurd a
one_shown keep (g ∷ gs) (s ∷ ss) [] none a b = absurd b
one_shown keep (g ∷ gs) (s ∷ ss) (t ∷ ts) none a b =
    ap₂ (λ x xs. x ∷ xs) (one_taken keep g s t (All-head HasNoSpikes g gs none) a.0 b.0)
    (one_shown keep gs ss ts (All-tail HasNoSpikes g gs none) a.1 b.1)

-- and a list of shapes
pub one_shown_in_shapes : (keep : Bool) (given first second : List (List (List Point))) →
    All (All HasNoSpikes) given → AreKeptOrThinned keep given first → AreKeptOrThinned keep given second →
    first ≡ second
one_shown_in_shapes keep [] [] [] none a b = refl
one_shown_in_shapes keep [] [] (t ∷ ts) none a b = absurd b
one_shown_in_shapes keep [] (s ∷ ss) second none a b = absurd a
one_shown_in_shapes keep (g ∷ gs) [] second none a b = absurd a
one_shown_in_shapes keep (g ∷ gs) (s ∷ ss) [] none a b = absurd b
one_shown_in_shapes keep (g ∷ gs) (s ∷ ss) (t ∷ ts) none a b =
    ap₂ (λ x xs. x ∷ xs) (one_shown keep g s t (All-head (All HasNoSpikes) g gs none) a.0 b.0)
    (one_shown_in_shapes keep gs ss ts (All-tail (All HasNoSpikes) g gs none) a.1 b.1)
