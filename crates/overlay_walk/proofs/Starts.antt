-- The first open place by where edges start is that of the start of the steps left.
use Rattle.std.proofs.Common.{◌≡◌, ℕ, ◌<◌, ◌≤◌, Bool, false, ℤ, List, [], length, get_or, All, sym, ◌∙◌, subst, arith}
use Rattle.std.specs.Prelude.{Contains}
use Rattle.std.proofs.lemmas.List.{length-map}
use Rattle.overlay_geom.specs.Plane.{Step, edge_of}
use Rattle.overlay_geom.proofs.Mapped.{read_mapped}
use Rattle.overlay_plane.specs.Contours.{IsStart}
use Rattle.overlay_plane.proofs.LongSteps.{start_from_tests}
use Rattle.overlay_walk.specs.Places.{is_open, step_at, comes_top_first, is_place_top_first}
use Rattle.overlay_walk.specs.Steps.{plain_step, plain_steps, unmarked, IsLong}
use Rattle.overlay_walk.specs.declared.step.Step.{Step as StepTaken}
use Rattle.overlay_walk.proofs.FirstPlaces.{IsFirstPlace}
use Rattle.overlay_walk.proofs.OpenPlaces.{unmarked-map, unmarked-all, unmarked_at, place_of_unmarked}
use Rattle.overlay_walk.proofs.StartOrder.{not_by_points, not_by_slopes}

module _ (ss : List Step) (marks : List Bool) (same : length marks ≡ length ss) (long : (t : Step) →
    Contains (unmarked ss marks) t → ¬ (t.from ≡ t.to)) where
  -- of no step left an edge starts before that of the step at the first place
  none_starts_before : (m : ℕ) → IsFirstPlace (is_open marks) (is_place_top_first ss) 0 (length ss) m →
      (t : Step) → Contains (unmarked ss marks) t → comes_top_first (edge_of t) (edge_of (step_at ss m)) ≡ false
  none_starts_before m first t c =
      let at = place_of_unmarked ss marks _ t same c in
      subst (λ u. comes_top_first (edge_of u) (edge_of (step_at ss m)) ≡ false) (at.1).is
      (first.first at.0 (omega arith) (at.1).below (at.1).untaken)

  -- the step at the first open place is the start
  pub start_at : (m : ℕ) → IsFirstPlace (is_open marks) (is_place_top_first ss) 0 (length ss) m →
      IsStart (unmarked ss marks) (step_at ss m)
  start_at m first = start_from_tests (unmarked ss marks) long (step_at ss m)
      (unmarked_at ss marks _ m same first.below first.untaken)
      (λ t c. not_by_points (edge_of t) (edge_of (step_at ss m)) (none_starts_before m first t c))
      (λ t c at. not_by_slopes (edge_of t) (edge_of (step_at ss m)) (none_starts_before m first t c) at)

module _ {I : Type 0} (whole : I → ℤ) (limit : ℕ) (steps : List (StepTaken I)) (marks : List Bool)
    (same : length marks ≡ length steps) where
  -- where no place is found, no step is left
  pub none_left : ((k : ℕ) → 0 ≤ k → k < length steps → is_open marks k ≡ false) → unmarked steps marks ≡ []
  none_left none = unmarked-all steps marks same (λ k h. none k (omega arith) h)

  module _ (long : All (IsLong limit) (plain_steps whole steps)) (m : ℕ) (s : StepTaken I) (is : s ≡ get_or steps m s)
      (first : IsFirstPlace (is_open marks) (is_place_top_first (plain_steps whole steps)) 0
      (length steps) m) where
    -- the step at the place that is found is left
    pub start_left : Contains (unmarked steps marks) s
    start_left = subst (λ t. Contains (unmarked steps marks) t) (sym is)
        (unmarked_at steps marks s m same first.below first.untaken)

    -- the step found is the start
    pub start_found : IsStart (plain_steps whole (unmarked steps marks)) (plain_step whole s)
    start_found =
        let counted = length-map steps (plain_step whole) in
        subst (λ t. IsStart (plain_steps whole (unmarked steps marks)) t)
        (read_mapped (plain_step whole) steps m s _ first.below is)
        (subst (λ ss. IsStart ss (step_at (plain_steps whole steps) m))
        (sym (unmarked-map (plain_step whole) steps marks))
        (start_at (plain_steps whole steps) marks (same ∙ sym counted)
        (λ t c. let at = place_of_unmarked (plain_steps whole steps) marks t t (same ∙ sym counted) c in
        subst (λ u. ¬ (u.from ≡ u.to)) (at.1).is (long at.0 t (at.1).below).apart)
        m (subst (λ n. IsFirstPlace (is_open marks) (is_place_top_first (plain_steps whole steps)) 0 n m)
        (sym counted) first)))
