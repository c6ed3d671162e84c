-- The state of steps that are walked.
use Rattle.std.specs.Prelude.{◌≡◌, ℕ, Bool, ℤ, List, length, All}
use Rattle.overlay_walk.specs.declared.step.Step.{Step as StepTaken}
use Rattle.overlay_walk.specs.declared.fans.FansByHand.{FansByHand}
use Rattle.overlay_walk.specs.Places.{ArePlacesTopFirst, ArePassed}
use Rattle.overlay_walk.specs.Fans.{AreFans}
use Rattle.overlay_walk.specs.Steps.{plain_steps, IsByFrom, IsLong}

-- the steps sorted by the points that they leave, with a mark for each. Their places are sorted by the starts of their
-- edges, and `passed` of these are known to be taken. The fans are theirs
pub record AreKept {I A : Type 0} (whole : I → ℤ) (limit : ℕ) (steps : List (StepTaken I)) (marks : List Bool)
    (places : List ℕ) (passed : ℕ) (fans : FansByHand A) : Type 0 where
  pub marked : length marks ≡ length steps
  pub leaving : IsByFrom (plain_steps whole steps)
  pub long : All (IsLong limit) (plain_steps whole steps)
  pub starting : ArePlacesTopFirst (plain_steps whole steps) places
  pub passing : ArePassed marks places passed
  pub turning : AreFans (plain_steps whole steps) marks fans
