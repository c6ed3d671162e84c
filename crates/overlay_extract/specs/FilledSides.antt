-- The filled sides of the edges of a list: the steps along them that have a filled side by a hand, where a test tells
-- which windings are filled. By this hand they lead on from each to the next one, and so make orbits.
use Rattle.std.specs.Prelude.{◌≡◌, Bool, true, false, cond, ℤ, List, [], ◌∷◌, ◌++◌, Contains}
use Rattle.std.specs.List.{flat_map}
use Rattle.overlay_geom.specs.Plane.{Step, reversed_step}
use Rattle.overlay_geom.specs.Edges.{CountedEdge, ends_of, winding_below, winding_above}
use Rattle.overlay_plane.specs.Turn.{Hand, other_hand, IsNextStep, IsOrbit}
use Rattle.overlay_plane.specs.Turn.Hand.{left}
use Rattle.overlay_plane.specs.NextSteps.{LeadsOn}
use Rattle.overlay_plane.specs.Nodes.{IsBalancedArrangement}
use Rattle.overlay_plane.specs.SelectedSteps.{step_with_left}
use Rattle.overlay_plane.specs.WindingsBeside.{IsStepAlong, winding_on_side}
use Rattle.overlay_plane.specs.BesideOrbits.{winding_beside, IsBalancedPart}

-- the steps along an edge that have a filled side on their left: the one along its upper side first
abbrev pub sides_of : (ℤ → Bool) → (CountedEdge → ℤ) → List CountedEdge → CountedEdge → List Step
sides_of fills count es e =
    cond (fills (winding_above count es e)) (step_with_left true (ends_of e) ∷ []) []
    ++ cond (fills (winding_below count es e)) (step_with_left false (ends_of e) ∷ []) []

-- those along all edges
abbrev pub filled_sides : (ℤ → Bool) → (CountedEdge → ℤ) → List CountedEdge → List Step
filled_sides fills count es = flat_map (sides_of fills count es) es

-- the step is along an edge of the list, and has a filled side by the hand
pub record IsFilledSide (fills : ℤ → Bool) (count : CountedEdge → ℤ) (es : List CountedEdge) (hand : Hand)
    (s : Step) : Type 0 where
  pub edge : CountedEdge
  pub along : IsStepAlong es edge s
  pub filled : fills (winding_on_side hand count es edge s) ≡ true

-- the steps are those that have a filled side by the hand
pub record AreFilledSides (fills : ℤ → Bool) (count : CountedEdge → ℤ) (es : List CountedEdge) (hand : Hand)
    (steps : List Step) : Type 0 where
  pub sides : (s : Step) → Contains steps s → IsFilledSide fills count es hand s
  pub all : (s : Step) → IsFilledSide fills count es hand s → Contains steps s

-- one orbit of the sides by the left hand passes both
pub record IsInOneOrbit (sides : List Step) (s t : Step) : Type 0 where
  pub walk : List Step
  pub orbit : IsOrbit sides left walk
  pub has_one : Contains walk s
  pub has_other : Contains walk t

-- ---- laws

-- the list of the filled sides has the steps with a filled side on their left
abbrev pub FilledSidesOfEdges : Type 0
FilledSidesOfEdges = (fills : ℤ → Bool) (count : CountedEdge → ℤ) (es : List CountedEdge) →
    IsBalancedArrangement count es → AreFilledSides fills count es left (filled_sides fills count es)

-- by their hand filled sides lead on
abbrev pub FilledSidesLeadOn : Type 0
FilledSidesLeadOn = (fills : ℤ → Bool) (count : CountedEdge → ℤ) (es : List CountedEdge) →
    IsBalancedArrangement count es → (hand : Hand) (steps : List Step) →
    AreFilledSides fills count es hand steps → LeadsOn steps hand

-- a side's next one by the hand leads back to it by the other hand, among the steps with a filled side by that one
abbrev pub NextSidesLeadBack : Type 0
NextSidesLeadBack = (fills : ℤ → Bool) (count : CountedEdge → ℤ) (es : List CountedEdge) →
    IsBalancedArrangement count es → (hand : Hand) (steps backs : List Step) →
    AreFilledSides fills count es hand steps → AreFilledSides fills count es (other_hand hand) backs →
    (s t : Step) → Contains steps s → IsNextStep steps hand s t →
    IsNextStep backs (other_hand hand) (reversed_step t) (reversed_step s)

-- along an orbit the winding on the hand's side is one number, for each part of the sides that has balanced counts
abbrev pub OneWindingAlongSides : Type 0
OneWindingAlongSides = (fills : ℤ → Bool) (count : CountedEdge → ℤ) (es : List CountedEdge) →
    IsBalancedArrangement count es → (hand : Hand) (steps : List Step) →
    AreFilledSides fills count es hand steps → (taken : List Step) → IsBalancedPart es steps taken →
    (walk : List Step) → IsOrbit steps hand walk → (s t : Step) → Contains walk s → Contains walk t →
    winding_beside hand es taken s ≡ winding_beside hand es taken t
