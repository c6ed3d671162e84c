-- Windings beside the steps of a walk: by a hand they are constant from each step to the next.
use Rattle.std.specs.Prelude.{◌≡◌, ◌⊎◌, cond, ℤ, pos, List, Contains}
use Rattle.overlay_geom.specs.Plane.{Step, point_eq}
use Rattle.overlay_geom.specs.Edges.{CountedEdge, winding_below, winding_above}
use Rattle.overlay_plane.specs.Turn.{Hand, IsNextStep}
use Rattle.overlay_plane.specs.Turn.Hand.{left, right}
use Rattle.overlay_plane.specs.Alternates.{Alternates}
use Rattle.overlay_plane.specs.Nodes.{IsBalancedArrangement}

-- the step walks along an edge of the list, or back along it
pub record IsStepAlong (es : List CountedEdge) (e : CountedEdge) (s : Step) : Type 0 where
  pub entry : Contains es e
  pub walks : (s ≡ record { from = e.a; to = e.b }) ⊎ (s ≡ record { from = e.b; to = e.a })

-- the winding on the hand's side of the step along e
abbrev pub winding_on_side : Hand → (CountedEdge → ℤ) → List CountedEdge → CountedEdge → Step → ℤ
winding_on_side left count es e s = cond (point_eq e.a s.from) (winding_above count es e) (winding_below count es e)
winding_on_side right count es e s = cond (point_eq e.a s.from) (winding_below count es e) (winding_above count es e)

-- each edge that counts has a step of the set along it
abbrev pub CountsSteps : (CountedEdge → ℤ) → List CountedEdge → List Step → Type 0
CountsSteps count es steps = (e : CountedEdge) → Contains es e →
    (count e ≡ pos 0) ⊎ ((s : Step) × Contains steps s × IsStepAlong es e s)

-- a step and its next step by a hand have equal windings on that hand's side, for any balanced count of edges of the
-- set
abbrev pub OneWindingToTheNextStep : Type 0
OneWindingToTheNextStep = (count : CountedEdge → ℤ) (es : List CountedEdge) → IsBalancedArrangement count es →
    (steps : List Step) → Alternates steps →
    CountsSteps count es steps → (hand : Hand) (s t : Step) → Contains steps s → IsNextStep steps hand s t →
    (e f : CountedEdge) → IsStepAlong es e s →
    IsStepAlong es f t → winding_on_side hand count es e s ≡ winding_on_side hand count es f t
