-- The points at which the steps of a walk begin, as a loop over the walk reads them.
use Rattle.std.proofs.Common.{◌≡◌, ℕ, ◌<◌, ℤ, List, All, length, get_or, sym, ◌∙◌, subst}
use Rattle.std.proofs.lemmas.List.{get_or_default, length-map}
use Rattle.overlay_geom.specs.Plane.{Point, Step, points_of}
use Rattle.overlay_geom.specs.Points.{plain_point, InRange}
use Rattle.overlay_geom.proofs.Mapped.{read_mapped, All-mapped_at}
use Rattle.overlay_walk.specs.declared.step.Step.{Step as StepTaken}
use Rattle.overlay_walk.specs.Steps.{plain_step, plain_steps, IsLong}

module _ {I : Type 0} (whole : I → ℤ) (ws : List (StepTaken I)) where
  -- there is one for each step
  pub points_counted : length (points_of (plain_steps whole ws)) ≡ length ws
  points_counted = length-map (plain_steps whole ws) (λ (s : Step). s.from) ∙ length-map ws (plain_step whole)

  module _ (k : ℕ) (d : StepTaken I) (inside : k < length ws) where
    -- the step that is read at a place
    abbrev read : StepTaken I
    read = get_or ws k d

    read_is : read ≡ get_or ws k read
    read_is = sym (get_or_default ws k read d inside)

    -- begins at the point there
    pub point_read : (e : Point) → get_or (points_of (plain_steps whole ws)) k e ≡ plain_point whole read.from
    point_read e = read_mapped (λ (s : Step). s.from) (plain_steps whole ws) k (plain_step whole read) e
        (subst (λ n. k < n) (sym (length-map ws (plain_step whole))) inside)
        (sym (read_mapped (plain_step whole) ws k read (plain_step whole read) inside read_is))

    -- which is in range
    pub point_in_range : (limit : ℕ) → All (IsLong limit) (plain_steps whole ws) →
        InRange limit (plain_point whole read.from)
    point_in_range limit long = (All-mapped_at (IsLong limit) (plain_step whole) ws k read inside read_is
        long).from_in_range
