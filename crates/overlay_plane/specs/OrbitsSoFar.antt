-- The first part of an orbit, as a walk goes along it step by step: its beginning, growth and end. It comes to no step
-- twice.
use Rattle.std.specs.Prelude.{◌≡◌, ◌≢◌, ℕ, ◌+◌, ◌-◌, ◌<◌, ◌≤◌, List, [], ◌∷◌, ◌++◌, length, Contains}
use Rattle.overlay_geom.specs.Plane.{Step}
use Rattle.overlay_plane.specs.Turn.{Hand, IsNextStep, step_round, IsOrbit}
use Rattle.overlay_plane.specs.NextSteps.{LeadsOn}

-- each step of the walk but the last is followed by its next step, and the first step has not come again
pub record IsOrbitSoFar (steps : List Step) (hand : Hand) (walk : List Step) : Type 0 where
  pub some : 0 < length walk
  pub inside : Contains steps (step_round walk 0)
  pub goes_on : (k : ℕ) → k + 1 < length walk → IsNextStep steps hand (step_round walk k) (step_round walk (k + 1))
  pub once : (k : ℕ) → 0 < k → k < length walk → step_round walk k ≢ step_round walk 0

abbrev pub last_of : List Step → Step
last_of walk = step_round walk (length walk - 1)

-- the walk's steps are different steps of the set. The next step after its last is its first step, which makes it an
-- orbit, or a new step, which makes a longer first part
pub record GoesRound (steps : List Step) (hand : Hand) (walk : List Step) : Type 0 where
  pub inside : (k : ℕ) → Contains steps (step_round walk k)
  pub once_each : (i j : ℕ) → i < length walk → j < length walk → step_round walk i ≡ step_round walk j → i ≡ j
  pub few : length walk ≤ length steps
  pub comes_to_new : (t : Step) → IsNextStep steps hand (last_of walk) t → Contains walk t → t ≡ step_round walk 0
  pub closes : IsNextStep steps hand (last_of walk) (step_round walk 0) → IsOrbit steps hand walk
  pub grows : (t : Step) → IsNextStep steps hand (last_of walk) t → t ≢ step_round walk 0 →
      IsOrbitSoFar steps hand (walk ++ t ∷ [])

-- a single step of the set is such a first part, and each first part goes on round
pub record OrbitsGrow : Type 0 where
  pub begins : (steps : List Step) (hand : Hand) (s : Step) → Contains steps s → IsOrbitSoFar steps hand (s ∷ [])
  pub goes_round : (steps : List Step) (hand : Hand) → LeadsOn steps hand → (walk : List Step) →
      IsOrbitSoFar steps hand walk → GoesRound steps hand walk
