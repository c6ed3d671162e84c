-- Steps counted on the edges of an arrangement: the winding of part of an alternating set on either side of each step,
-- and the parts with balanced counts.
use Rattle.std.specs.Prelude.{◌≡◌, Bool, false, cond, not, ℤ, pos, ◌+ℤ◌, ◌-ℤ◌, List, Contains, AllPairs, filter}
use Rattle.overlay_geom.specs.Plane.{Step, Edge, edge_eq, step_eq, is_forward, edge_of, sign_of, reversed_step}
use Rattle.overlay_geom.specs.Plane.{midpoint, total}
use Rattle.overlay_geom.specs.Edges.{CountedEdge, ends_of, winding_by}
use Rattle.overlay_plane.specs.Turn.{Hand, IsNextStep, IsOrbit}
use Rattle.overlay_plane.specs.Turn.Hand.{left, right}
use Rattle.overlay_plane.specs.Alternates.{Alternates}
use Rattle.overlay_plane.specs.NextSteps.{LeadsOn, IsClosedUnderNext}
use Rattle.overlay_plane.specs.EdgeLists.{IsBalanced}
use Rattle.overlay_plane.specs.Regions.{IsPlanar, one_if}

-- how often the steps walk along the edge, minus how often they walk back along it
abbrev pub count_along : List Step → Edge → ℤ
count_along taken e = total (λ s. cond (edge_eq (edge_of s) e) (sign_of s) (pos 0)) taken

-- that count for an edge of a list
abbrev pub count_on : List Step → CountedEdge → ℤ
count_on taken e = count_along taken (ends_of e)

-- the winding of the steps taken below an edge, and above it
abbrev pub winding_under : List CountedEdge → List Step → Edge → ℤ
winding_under es taken e = winding_by (count_on taken) es (midpoint e)

abbrev pub winding_over : List CountedEdge → List Step → Edge → ℤ
winding_over es taken e = winding_under es taken e +ℤ count_along taken e

-- the winding of the steps taken on the hand's side of a step
abbrev pub winding_beside : Hand → List CountedEdge → List Step → Step → ℤ
winding_beside left es taken s = cond (is_forward s) (winding_over es taken (edge_of s))
    (winding_under es taken (edge_of s))
winding_beside right es taken s = cond (is_forward s) (winding_under es taken (edge_of s))
    (winding_over es taken (edge_of s))

-- how often the list contains the step
abbrev pub times_held : List Step → Step → ℤ
times_held taken s = total (λ t. one_if (step_eq t s)) taken

-- no step occurs twice in the list
abbrev pub HasEachOnce : List Step → Type 0
HasEachOnce steps = AllPairs (λ s t. step_eq s t ≡ false) steps

-- the steps walk along edges of a planar list
pub record WalksAlong (es : List CountedEdge) (steps : List Step) : Type 0 where
  pub planar : IsPlanar es
  pub along : (s : Step) → Contains steps s → (e : CountedEdge) × Contains es e × (edge_of s ≡ ends_of e)

-- some of the steps, whose counts are balanced
pub record IsBalancedPart (es : List CountedEdge) (steps taken : List Step) : Type 0 where
  pub inside : (s : Step) → Contains taken s → Contains steps s
  pub balanced : IsBalanced ends_of (count_on taken) es

-- ---- along orbits

-- on the hand's side, a step and its next step by the hand have equal windings
abbrev pub OneWindingToTheNext : Type 0
OneWindingToTheNext = (es : List CountedEdge) (steps taken : List Step) → WalksAlong es steps → Alternates steps →
    IsBalancedPart es steps taken → (hand : Hand) (s t : Step) → Contains steps s →
    IsNextStep steps hand s t → winding_beside hand es taken s ≡ winding_beside hand es taken t

-- along an orbit by a hand, the winding on the hand's side is constant
abbrev pub OneWindingAlongOrbits : Type 0
OneWindingAlongOrbits = (es : List CountedEdge) (steps taken : List Step) → WalksAlong es steps → Alternates steps →
    IsBalancedPart es steps taken →
    (hand : Hand) (walk : List Step) → IsOrbit steps hand walk → (s t : Step) → Contains walk s → Contains walk t →
    winding_beside hand es taken s ≡ winding_beside hand es taken t

-- ---- across steps

-- across a step the winding on its left is that on its right plus how often the step is taken, minus how often it is
-- taken back
abbrev pub WindingAcrossAStep : Type 0
WindingAcrossAStep = (es : List CountedEdge) (taken : List Step) (s : Step) → ¬ (s.from ≡ s.to) →
    winding_beside left es taken s ≡
    winding_beside right es taken s +ℤ (times_held taken s -ℤ times_held taken (reversed_step s))

-- takes some steps of a set that alternates, each at most once. Across a step taken the winding on the left is 1 more
-- than on the right, and across another step of the set it is equal
pub record WindingAcrossSteps (es : List CountedEdge) (steps taken : List Step) : Type 0 where
  pub rises : HasEachOnce taken → (s : Step) → Contains taken s →
      winding_beside left es taken s ≡ winding_beside right es taken s +ℤ pos 1
  pub stays : (s : Step) → Contains steps s → ¬ (Contains taken s) →
      winding_beside left es taken s ≡ winding_beside right es taken s

abbrev pub WindingAcrossAlternatingSteps : Type 0
WindingAcrossAlternatingSteps = (es : List CountedEdge) (steps taken : List Step) → Alternates steps →
    ((s : Step) → Contains taken s → Contains steps s) →
    WindingAcrossSteps es steps taken

-- ---- balanced counts

-- no step occurs twice in an orbit
abbrev pub OrbitsHaveEachOnce : Type 0
OrbitsHaveEachOnce = (steps : List Step) (hand : Hand) → LeadsOn steps hand → (walk : List Step) →
    IsOrbit steps hand walk → HasEachOnce walk

-- an orbit's steps have balanced counts
abbrev pub OrbitsAreBalanced : Type 0
OrbitsAreBalanced = (es : List CountedEdge) (steps : List Step) →
    WalksAlong es steps → (hand : Hand) (walk : List Step) → IsOrbit steps hand walk → IsBalancedPart es steps walk

-- steps that alternate, each once, have balanced counts
abbrev pub AlternatingStepsAreBalanced : Type 0
AlternatingStepsAreBalanced = (es : List CountedEdge) (steps : List Step) → WalksAlong es steps → Alternates steps →
    HasEachOnce steps → IsBalancedPart es steps steps

-- the steps that a closed test takes have balanced counts, and so do those that it leaves
pub record HasBalancedParts (es : List CountedEdge) (steps : List Step) (taken : Step → Bool) : Type 0 where
  pub of_taken : IsBalancedPart es steps (filter taken steps)
  pub of_left : IsBalancedPart es steps (filter (λ s. not (taken s)) steps)

abbrev pub ClosedPartsAreBalanced : Type 0
ClosedPartsAreBalanced = (es : List CountedEdge) (steps : List Step) → WalksAlong es steps → Alternates steps →
    HasEachOnce steps →
    (hand : Hand) (taken : Step → Bool) → IsClosedUnderNext steps hand taken → HasBalancedParts es steps taken
