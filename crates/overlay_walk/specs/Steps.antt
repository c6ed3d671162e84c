-- Steps that a program walks, as whole numbers.
use Rattle.std.specs.Prelude.{◌≡◌, ℕ, Bool, false, cond, ℤ, List, [], ◌∷◌, map, AllPairs, slice_get, Some}
use Rattle.overlay_geom.specs.Plane.{Step, Edge, point_lt}
use Rattle.overlay_geom.specs.Points.{plain_point, InRange}
use Rattle.overlay_geom.specs.declared.options.ContourDirection.{ContourDirection}
use Rattle.overlay_geom.specs.declared.options.ContourDirection.TheVariants.{CounterClockwise, Clockwise}
use Rattle.overlay_plane.specs.SelectedSteps.{step_with_left}
use Rattle.overlay_plane.specs.Turn.{Hand, left, right}
use Rattle.overlay_plane.specs.Contours.{outline_or_hole_hand}
use Rattle.overlay_walk.specs.declared.hand.Hand.{Hand as HandTaken}
use Rattle.overlay_walk.specs.declared.hand.Hand.TheVariants.{Left, Right}
use Rattle.overlay_walk.specs.declared.hand.HandRule.{HandRule}
use Rattle.overlay_walk.specs.declared.hand.HandRule.TheVariants.{OutlineOrHole, Always}
use Rattle.overlay_walk.specs.declared.step.Step.{Step as StepTaken}

-- the hand for a hand of the program
abbrev pub plain_hand : HandTaken → Hand
plain_hand Left = left
plain_hand Right = right

-- the hand of the filled side of contours in a direction: the left hand for counterclockwise
abbrev pub filled_hand : ContourDirection → Hand
filled_hand CounterClockwise = left
filled_hand Clockwise = right

-- the hand by which a walk turns that begins with a step, by the rule
abbrev pub hand_by : HandRule → Step → Hand
hand_by (OutlineOrHole direction) s = outline_or_hole_hand (filled_hand direction) s
hand_by (Always hand) s = plain_hand hand

-- the step for a step of the program, and those of a list
abbrev pub plain_step : {I : Type 0} → (I → ℤ) → StepTaken I → Step
plain_step whole s = record { from = plain_point whole s.from; to = plain_point whole s.to }

abbrev pub plain_steps : {I : Type 0} → (I → ℤ) → List (StepTaken I) → List Step
plain_steps whole ss = map (plain_step whole) ss

-- the step leads along the edge, with its upper or its lower side on the left, and has this number
pub record IsAlong {I : Type 0} (whole : I → ℤ) (number : ℕ) (e : Edge) (s : StepTaken I) : Type 0 where
  pub above : Bool
  pub along : plain_step whole s ≡ step_with_left above e
  pub numbered : s.edge ≡ number

-- the step leads along the edge at the place that is its number
pub record RunsAlong {I : Type 0} (whole : I → ℤ) (edges : List Edge) (s : StepTaken I) : Type 0 where
  pub edge : Edge
  pub stands : slice_get edges s.edge ≡ Some edge
  pub along : IsAlong whole s.edge edge s

-- a step between two different points in range
pub record IsLong (limit : ℕ) (s : Step) : Type 0 where
  pub from_in_range : InRange limit s.from
  pub to_in_range : InRange limit s.to
  pub apart : ¬ (s.from ≡ s.to)

-- no step leaves a smaller point than a step before it
abbrev pub IsByFrom : List Step → Type 0
IsByFrom ss = AllPairs (λ s t. point_lt t.from s.from ≡ false) ss

-- the entries whose marks are false
abbrev pub unmarked : {X : Type 0} → List X → List Bool → List X
unmarked [] marks = []
unmarked (x ∷ xs) [] = x ∷ xs
unmarked (x ∷ xs) (m ∷ ms) = cond m (unmarked xs ms) (x ∷ unmarked xs ms)
