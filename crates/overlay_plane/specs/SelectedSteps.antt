-- Selected steps: steps of the edges with a rule that holds on exactly one side, of the windings there. Each step has
-- that side by the hand `filled`: on the left, or on the right.
use Rattle.std.specs.Prelude.{◌≡◌, Bool, not, cond, ℤ, List, [], ◌∷◌, Contains}
use Rattle.std.specs.List.{flat_map}
use Rattle.overlay_geom.specs.Plane.{Step, Edge}
use Rattle.overlay_geom.specs.Edges.{CountedEdge, ends_of}
use Rattle.overlay_plane.specs.Alternates.{Alternates}
use Rattle.overlay_plane.specs.Nodes.{IsBalancedArrangement}
use Rattle.overlay_plane.specs.Regions.{holds_above, holds_below}
use Rattle.overlay_plane.specs.Turn.{Hand, is_left_hand}

-- the step along an edge that has its upper side, or its lower side, on the left
abbrev pub step_with_left : Bool → Edge → Step
step_with_left above e = cond above (record { from = e.a; to = e.b }) (record { from = e.b; to = e.a })

-- the step along an edge that has by the hand the side where the rule holds: the upper side, if it holds there
abbrev pub selected_step : (ℤ → ℤ → Bool) → (subj clip : CountedEdge → ℤ) → Hand → List CountedEdge → CountedEdge → Step
selected_step holds subj clip filled es e =
    step_with_left (cond (is_left_hand filled) (holds_above holds subj clip es e) (holds_below holds subj clip es e))
    (ends_of e)

-- the rule holds on exactly one side of the edge, and s is its step that has that side by the hand
pub record IsSelectedStep (holds : ℤ → ℤ → Bool) (subj clip : CountedEdge → ℤ) (es : List CountedEdge) (filled : Hand)
    (e : CountedEdge)
    (s : Step) : Type 0 where
  pub entry : Contains es e
  pub changes : holds_below holds subj clip es e ≡ not (holds_above holds subj clip es e)
  pub walks : s ≡ selected_step holds subj clip filled es e

-- the steps are the selected steps of the edges
pub record AreSelected (holds : ℤ → ℤ → Bool) (subj clip : CountedEdge → ℤ) (es : List CountedEdge) (filled : Hand)
    (steps : List Step) : Type 0 where
  pub selected : (s : Step) → Contains steps s → (e : CountedEdge) × IsSelectedStep holds subj clip es filled e s
  pub all : (e : CountedEdge) (s : Step) → IsSelectedStep holds subj clip es filled e s → Contains steps s

-- selected steps alternate round every node
abbrev pub SelectedStepsAlternate : Type 0
SelectedStepsAlternate = (holds : ℤ → ℤ → Bool) (subj clip : CountedEdge → ℤ) (es : List CountedEdge) →
    IsBalancedArrangement subj es → IsBalancedArrangement clip es → (filled : Hand) (steps : List Step) →
    AreSelected holds subj clip es filled steps → Alternates steps

-- the rule holds on exactly one side of the edge
abbrev pub is_selected : (ℤ → ℤ → Bool) → (subj clip : CountedEdge → ℤ) → List CountedEdge → CountedEdge → Bool
is_selected holds subj clip es e = cond (holds_above holds subj clip es e) (not (holds_below holds subj clip es e))
    (holds_below holds subj clip es e)

-- the selected steps, in the order of the edges
abbrev pub selected_steps : (ℤ → ℤ → Bool) → (subj clip : CountedEdge → ℤ) → Hand → List CountedEdge → List Step
selected_steps holds subj clip filled es =
    flat_map (λ e. cond (is_selected holds subj clip es e) (selected_step holds subj clip filled es e ∷ []) []) es

abbrev pub SelectedStepsOfEdges : Type 0
SelectedStepsOfEdges = (holds : ℤ → ℤ → Bool) (subj clip : CountedEdge → ℤ) (filled : Hand) (es : List CountedEdge) →
    AreSelected holds subj clip es filled (selected_steps holds subj clip filled es)
