-- Orbits in a set of steps that leads on by a hand. They exist and visit each of their steps once. With each step they
-- contain its next step and the step before. They leave a set that leads on, and in an alternating set they leave an
-- alternating set.
use Rattle.std.specs.Prelude.{◌≡◌, ◌↔◌, ℕ, ◌<◌, ◌≤◌, Bool, false, not, ◌||◌, List, [], ◌∷◌, length, All, Contains}
use Rattle.std.specs.Prelude.{filter}
use Rattle.std.specs.Bool.{Decides}
use Rattle.overlay_geom.specs.Plane.{Step, step_eq}
use Rattle.overlay_plane.specs.Turn.{Hand, IsNextStep, step_round, IsOrbit}
use Rattle.overlay_plane.specs.Alternates.{Alternates}
use Rattle.overlay_plane.specs.NextSteps.{LeadsOn, IsClosedUnderNext, IsApartFromRest}

-- from each step of the set its next steps lead back to it
abbrev pub OrbitsExist : Type 0
OrbitsExist = (steps : List Step) (hand : Hand) (s : Step) → Contains steps s → LeadsOn steps hand →
    (walk : List Step) × IsOrbit steps hand walk × (step_round walk 0 ≡ s)

-- the walk's steps are in the set, and different places have different steps. With each step the walk contains its next
-- step and the step before
pub record IsCycle (steps : List Step) (hand : Hand) (walk : List Step) : Type 0 where
  pub inside : All (Contains steps) walk
  pub once_each : (i j : ℕ) → i < length walk → j < length walk → step_round walk i ≡ step_round walk j → i ≡ j
  pub closed : (s t : Step) → Contains steps s → IsNextStep steps hand s t → Contains walk s ↔ Contains walk t

abbrev pub OrbitsAreCycles : Type 0
OrbitsAreCycles = (steps : List Step) (hand : Hand) → LeadsOn steps hand → (walk : List Step) →
    IsOrbit steps hand walk → IsCycle steps hand walk

-- a step has one orbit
abbrev pub OrbitsAreUnique : Type 0
OrbitsAreUnique = (steps : List Step) (hand : Hand) → LeadsOn steps hand → (walk other : List Step) →
    IsOrbit steps hand walk →
    IsOrbit steps hand other → step_round walk 0 ≡ step_round other 0 → walk ≡ other

-- orbits that share a step have the same steps
abbrev pub OrbitsAreApart : Type 0
OrbitsAreApart = (steps : List Step) (hand : Hand) → LeadsOn steps hand → (walk other : List Step) →
    IsOrbit steps hand walk →
    IsOrbit steps hand other → (s : Step) → Contains walk s → Contains other s →
    (t : Step) → Contains walk t ↔ Contains other t

-- the step belongs to the walk
abbrev pub is_step_of : List Step → Step → Bool
is_step_of [] s = false
is_step_of (t ∷ ts) s = step_eq t s || is_step_of ts s

-- a test for the steps of an orbit is closed
abbrev pub OrbitsAreClosed : Type 0
OrbitsAreClosed = (steps : List Step) (hand : Hand) → LeadsOn steps hand →
    (walk : List Step) → IsOrbit steps hand walk → (test : Step → Bool) →
    ((s : Step) → Decides (test s) (Contains walk s)) → IsClosedUnderNext steps hand test

-- a test for the steps of an orbit is closed, so the steps left by the orbit alternate, and have the same next steps
abbrev pub OrbitsLeaveTheRest : Type 0
OrbitsLeaveTheRest = (steps : List Step) → Alternates steps →
    (hand : Hand) (walk : List Step) → IsOrbit steps hand walk → (taken : Step → Bool) →
    ((s : Step) → Decides (taken s) (Contains walk s)) →
    IsClosedUnderNext steps hand taken × IsApartFromRest steps hand taken

-- an orbit of the steps left by a closed test is an orbit of the whole set
abbrev pub OrbitsOfTheRest : Type 0
OrbitsOfTheRest = (steps : List Step) (hand : Hand) → LeadsOn steps hand → (taken : Step → Bool) →
    IsClosedUnderNext steps hand taken →
    (walk : List Step) → IsOrbit (filter (λ s. not (taken s)) steps) hand walk → IsOrbit steps hand walk

-- no orbit is a single step, or a step there and a step back
abbrev pub OrbitsHaveThreeSteps : Type 0
OrbitsHaveThreeSteps = (steps : List Step) → Alternates steps → (hand : Hand) (walk : List Step) →
    IsOrbit steps hand walk → 3 ≤ length walk
