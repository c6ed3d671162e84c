-- Steps cut into contours: while steps are left, the next contour is the orbit of the step along the top edge at their
-- leftmost lowest point. That step tells the hand.
use Rattle.std.specs.Prelude.{◌≡◌, ℕ, ◌+◌, ◌<◌, ◌≤◌, Bool, cond, not, List, [], ◌∷◌, length, take, slice_index_or, All}
use Rattle.std.specs.Prelude.{Contains, filter}
use Rattle.std.specs.List.{flat_map}
use Rattle.std.specs.List.Sorted.{IsPermutation}
use Rattle.overlay_geom.specs.Plane.{Step, is_forward, edge_of, steps_of, points_of}
use Rattle.overlay_plane.specs.Turn.{Hand, step_round, IsOrbit, other_hand, is_left_hand}
use Rattle.overlay_plane.specs.Alternates.{Alternates}
use Rattle.overlay_plane.specs.NextSteps.{LeadsOn}
use Rattle.overlay_plane.specs.Orbits.{is_step_of}
use Rattle.overlay_plane.specs.BesideOrbits.{HasEachOnce}
use Rattle.overlay_plane.specs.LeftmostSteps.{NoneHasEndBefore, NoneTakenAbove}

-- ---- hands, where `filled` is the hand of the filled side of each step

-- the upper side of the step's edge is its filled side
abbrev pub is_filled_above : Hand → Step → Bool
is_filled_above filled s = cond (is_left_hand filled) (is_forward s) (not (is_forward s))

-- a contour that begins with an edge filled above is a hole, and turns by the hand of the empty side; an outline turns
-- by the hand of the filled side
abbrev pub outline_or_hole_hand : Hand → Step → Hand
outline_or_hole_hand filled s = cond (is_filled_above filled s) (other_hand filled) filled

-- ---- the cut

-- the step along the top edge at the leftmost lowest point of the steps
pub record IsStart (steps : List Step) (s : Step) : Type 0 where
  pub among : Contains steps s
  pub lowest : NoneHasEndBefore steps (edge_of s).a
  pub top : NoneTakenAbove steps (edge_of s).a (edge_of s)

-- the steps that are not among those taken
abbrev pub without : List Step → List Step → List Step
without steps taken = filter (λ s. not (is_step_of taken s)) steps

-- the steps are cut into walks: while steps are left, the next walk is the orbit of their start, in the steps left, by
-- the hand that the start tells
pub data IsCutInto (hand_of : Step → Hand) : List Step → List (List Step) → Type 0 where
  done : IsCutInto hand_of [] []
  next : {steps : List Step} {s : Step} {ss : List Step} {rest : List (List Step)} → IsStart steps s →
      IsOrbit steps (hand_of s) (s ∷ ss) →
      IsCutInto hand_of (without steps (s ∷ ss)) rest → IsCutInto hand_of steps ((s ∷ ss) ∷ rest)

-- the steps can be cut by the rule: they alternate, or the rule tells one hand for all of them, by which they lead on
pub data CanBeCut (hand_of : Step → Hand) (steps : List Step) : Type 0 where
  alternating : Alternates steps → CanBeCut hand_of steps
  by_one_hand : (hand : Hand) → ((s : Step) → Contains steps s → hand_of s ≡ hand) → LeadsOn steps hand →
      CanBeCut hand_of steps

-- steps that can be cut lead on by the hand that any of them tells, and the steps left by an orbit can be cut again
pub record LeavesCuttable (hand_of : Step → Hand) (steps : List Step) (s : Step) : Type 0 where
  pub leads_on : LeadsOn steps (hand_of s)
  pub leaves : (walk : List Step) → IsOrbit steps (hand_of s) walk → CanBeCut hand_of (without steps walk)

abbrev pub CutsLeaveCuttable : Type 0
CutsLeaveCuttable = (hand_of : Step → Hand) (steps : List Step) → CanBeCut hand_of steps →
    (s : Step) → Contains steps s →
    LeavesCuttable hand_of steps s

-- all steps of the walks
abbrev pub all_steps : List (List Step) → List Step
all_steps walks = flat_map (λ walk. walk) walks

-- the cut takes each step exactly once
abbrev pub CutsTakeEachOnce : Type 0
CutsTakeEachOnce = (hand_of : Step → Hand) (steps : List Step) → CanBeCut hand_of steps → HasEachOnce steps →
    (walks : List (List Step)) →
    IsCutInto hand_of steps walks → IsPermutation steps (all_steps walks)

-- the walk is the orbit of the start of steps that alternate
pub record IsFirstWalk (hand_of : Step → Hand) (steps walk : List Step) : Type 0 where
  pub alternate : Alternates steps
  pub start : IsStart steps (step_round walk 0)
  pub orbit : IsOrbit steps (hand_of (step_round walk 0)) walk

-- the steps left by the first walks alternate, and the next walk is the orbit of their start
abbrev pub CutsAreOrbits : Type 0
CutsAreOrbits = (hand_of : Step → Hand) (steps : List Step) → Alternates steps → (walks : List (List Step)) →
    IsCutInto hand_of steps walks →
    (k : ℕ) → k < length walks → IsFirstWalk hand_of (without steps (all_steps (take k walks)))
    (slice_index_or walks k [])

-- steps that can be cut have a cut
abbrev pub CutsExist : Type 0
CutsExist = (hand_of : Step → Hand) (steps : List Step) → CanBeCut hand_of steps →
    (walks : List (List Step)) × IsCutInto hand_of steps walks

-- the walk is a closed contour: three steps or more, all different, that are the steps of its points. Each leads to the
-- next, and the last to the first
pub record IsContour (walk : List Step) : Type 0 where
  pub three : 3 ≤ length walk
  pub leads_on : (k : ℕ) → (step_round walk (k + 1)).from ≡ (step_round walk k).to
  pub once : HasEachOnce walk
  pub whole : steps_of (points_of walk) ≡ walk

-- orbits are contours
abbrev pub OrbitsAreContours : Type 0
OrbitsAreContours = (steps : List Step) → Alternates steps → (hand : Hand) (walk : List Step) →
    IsOrbit steps hand walk → IsContour walk

-- the walks of a cut are contours
abbrev pub CutsAreContours : Type 0
CutsAreContours = (hand_of : Step → Hand) (steps : List Step) → Alternates steps → (walks : List (List Step)) →
    IsCutInto hand_of steps walks → All IsContour walks
