-- The places on a path at which the points of a walk are left, kept by the numbers of the points.
use Rattle.std.specs.Prelude.{◌≡◌, ℕ, ◌<◌, true, false, ℤ, List, length, take, All, Contains, Option, None, Some}
use Rattle.std.specs.List.{slice_get}
use Rattle.std.specs.List.Sorted.{IsPartitionPoint}
use Rattle.overlay_geom.specs.Plane.{Point, Step, point_lt, points_of}
use Rattle.overlay_walk.specs.Places.{step_at}
use Rattle.overlay_walk.specs.Steps.{plain_step, plain_steps, IsByFrom}
use Rattle.overlay_walk.specs.declared.step.Step.{Step as StepTaken}

-- n is the number of the point: so many of the steps leave smaller points, and they come first
abbrev pub IsNumberOf : {I : Type 0} → (I → ℤ) → List (StepTaken I) → Point → ℕ → Type 0
IsNumberOf whole steps v n = IsPartitionPoint (λ s. point_lt (plain_step whole s).from v ≡ true)
    (λ s. point_lt (plain_step whole s).from v ≡ false) steps n

-- one of the steps leaves the point
abbrev pub IsLeft : {I : Type 0} → (I → ℤ) → List (StepTaken I) → Point → Type 0
IsLeft whole steps v = Contains (points_of (plain_steps whole steps)) v

-- the steps stand in the order of the points that they leave. At the number of each point that the path leaves stands
-- its place on the path
pub record AreNoted {I : Type 0} (whole : I → ℤ) (steps : List (StepTaken I)) (places : List ℕ) (path : List Step)
    : Type 0 where
  pub by_start : IsByFrom (plain_steps whole steps)
  pub a_place_each : length places ≡ length steps
  pub known : All (λ s. IsLeft whole steps s.from) path
  pub noted : (k n : ℕ) → k < length path → IsNumberOf whole steps (step_at path k).from n →
      slice_get places n ≡ Some k

-- the path before the place of a step, or all of it where there is none
abbrev pub path_before : {X : Type 0} → Option ℕ → List X → List X
path_before None path = path
path_before (Some k) path = take k path
