-- Walks as lists of steps between whole points.
use Rattle.std.specs.Prelude.{ℤ, List, map, Vec}
use Rattle.overlay_geom.specs.Plane.{Step}
use Rattle.overlay_plane.specs.Contours.{IsStart}
use Rattle.overlay_plane.specs.Turn.{Hand, IsOrbit, step_round}
use Rattle.overlay_walk.specs.declared.step.Step.{Step as StepTaken}
use Rattle.overlay_walk.specs.Steps.{plain_steps}

-- the walks for walks of the program
abbrev pub plain_walks : {I A : Type 0} → (I → ℤ) → List (Vec (StepTaken I) A) → List (List Step)
plain_walks whole ws = map (λ w. plain_steps whole w.items) ws

-- the walk is an orbit in its own steps, by some hand, and begins with their start
pub record IsOwnOrbit (walk : List Step) : Type 0 where
  pub hand : Hand
  pub orbit : IsOrbit walk hand walk
  pub start : IsStart walk (step_round walk 0)
