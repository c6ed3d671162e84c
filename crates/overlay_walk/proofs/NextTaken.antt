-- The step at the place that a search for the next step finds, and the rest once it is taken.
use Rattle.std.proofs.Common.{◌≡◌, ℕ, ◌<◌, Bool, true, ℤ, List, [], ◌∷◌, length, get_or, sym, ap, ◌∙◌, subst}
use Rattle.std.specs.Prelude.{Any, Contains, None, set}
use Rattle.std.proofs.lemmas.List.{length-map}
use Rattle.overlay_geom.specs.Plane.{Step}
use Rattle.overlay_geom.proofs.Mapped.{read_mapped}
use Rattle.overlay_plane.specs.BesideOrbits.{HasEachOnce}
use Rattle.overlay_plane.specs.Contours.{without}
use Rattle.overlay_plane.specs.Turn.{Hand, IsNextStep}
use Rattle.overlay_plane.proofs.LaterEntries.{Each-from_all_pairs}
use Rattle.overlay_plane.proofs.ShuffledSteps.{Differ}
use Rattle.overlay_walk.specs.Places.{step_at, IsNextAt, IsNextPlace}
use Rattle.overlay_walk.specs.Steps.{plain_step, plain_steps, unmarked}
use Rattle.overlay_walk.specs.declared.step.Step.{Step as StepTaken}
use Rattle.overlay_walk.proofs.NextPlaces.{next_step, some_next}
use Rattle.overlay_walk.proofs.OpenPlaces.{unmarked-map, unmarked_at}
use Rattle.overlay_walk.proofs.TakenSteps.{unmarked-set}

module _ {I : Type 0} (whole : I → ℤ) (steps : List (StepTaken I)) (marks : List Bool)
    (same : length marks ≡ length steps) (hand : Hand) (s : Step) where
  -- the steps' numbers are as many
  same_plain : length marks ≡ length (plain_steps whole steps)
  same_plain = same ∙ sym (length-map steps (plain_step whole))

  -- where the steps left go on, a next one is found
  pub some_is_found : Any (λ t. t.from ≡ s.to) (plain_steps whole (unmarked steps marks)) →
      ¬ (IsNextPlace (plain_steps whole steps) marks hand s None)
  some_is_found on = some_next (plain_steps whole steps) marks hand s same_plain
      (subst (Any (λ t. t.from ≡ s.to)) (unmarked-map (plain_step whole) steps marks) on)

  module _ (m : ℕ) (t : StepTaken I) (is : t ≡ get_or steps m t)
      (next : IsNextAt (plain_steps whole steps) marks hand s m) where
    within : m < length steps
    within = subst (λ n. m < n) (length-map steps (plain_step whole)) next.below

    plain_is : step_at (plain_steps whole steps) m ≡ plain_step whole t
    plain_is = read_mapped (plain_step whole) steps m t _ within is

    -- it is one of the steps left
    pub found_left : Contains (unmarked steps marks) t
    found_left = subst (λ u. Contains (unmarked steps marks) u) (sym is)
        (unmarked_at steps marks t m same within next.untaken)

    -- the step found is the next of them
    pub found_next : IsNextStep (plain_steps whole (unmarked steps marks)) hand s (plain_step whole t)
    found_next = subst (λ ss. IsNextStep ss hand s (plain_step whole t))
        (sym (unmarked-map (plain_step whole) steps marks))
        (subst (λ u. IsNextStep (unmarked (plain_steps whole steps) marks) hand s u) plain_is
        (next_step (plain_steps whole steps) marks hand s same_plain m next))

    -- once it is marked, the others are left
    pub others_left : HasEachOnce (plain_steps whole (unmarked steps marks)) →
        plain_steps whole (unmarked steps (set marks m true)) ≡ without (plain_steps whole (unmarked steps marks))
        (plain_step whole t ∷ [])
    others_left once =
        unmarked-map (plain_step whole) steps (set marks m true)
        ∙ unmarked-set (plain_steps whole steps) marks m same_plain next.below next.untaken
        (Each-from_all_pairs Differ (unmarked (plain_steps whole steps) marks)
        (subst HasEachOnce (unmarked-map (plain_step whole) steps marks) once))
        ∙ ap (λ ss. without ss (step_at (plain_steps whole steps) m ∷ []))
        (sym (unmarked-map (plain_step whole) steps marks))
        ∙ ap (λ u. without (plain_steps whole (unmarked steps marks)) (u ∷ [])) plain_is
