-- The leftmost lowest point of the steps taken: their winding is 0 left of it, above their top edge there, and below
-- their lowest edge.
use Rattle.std.specs.Prelude.{◌≡◌, ◌⊎◌, true, false, pos, List, Contains}
use Rattle.overlay_geom.specs.Plane.{Point, Step, Edge, point_lt, edge_of}
use Rattle.overlay_geom.specs.Edges.{CountedEdge, ends_of}
use Rattle.overlay_plane.specs.Turn.{Hand}
use Rattle.overlay_plane.specs.Nodes.{turns_left}
use Rattle.overlay_plane.specs.Leftmost.{HasEndBefore}
use Rattle.overlay_plane.specs.BesideOrbits.{winding_under, winding_over, winding_beside, WalksAlong, IsBalancedPart}

-- an end of the step comes before q
abbrev pub StepHasEndBefore : Point → Step → Type 0
StepHasEndBefore q s = (point_lt s.from q ≡ true) ⊎ (point_lt s.to q ≡ true)

-- no step taken has an end before q
abbrev pub NoneHasEndBefore : List Step → Point → Type 0
NoneHasEndBefore taken q = (s : Step) → Contains taken s → ¬ (StepHasEndBefore q s)

-- no step taken walks along an edge that starts in q and leads above this edge, or below it
abbrev pub NoneTakenAbove : List Step → Point → Edge → Type 0
NoneTakenAbove taken q e = (s : Step) → Contains taken s → (edge_of s).a ≡ q → turns_left e (edge_of s) ≡ false

abbrev pub NoneTakenBelow : List Step → Point → Edge → Type 0
NoneTakenBelow taken q e = (s : Step) → Contains taken s → (edge_of s).a ≡ q → turns_left (edge_of s) e ≡ false

-- the winding of the steps taken is 0 on both sides of edges and steps with an end before q. At q it is 0 from their
-- top edge upwards, and from their lowest edge downwards
pub record IsOutsideOfSteps (es : List CountedEdge) (steps taken : List Step) (q : Point) : Type 0 where
  pub under_earlier : (e : CountedEdge) → Contains es e → HasEndBefore q e → winding_under es taken (ends_of e) ≡ pos 0
  pub over_earlier : (e : CountedEdge) → Contains es e → HasEndBefore q e → winding_over es taken (ends_of e) ≡ pos 0
  pub over_top : (e : CountedEdge) → Contains es e → e.a ≡ q → NoneTakenAbove taken q (ends_of e) →
      winding_over es taken (ends_of e) ≡ pos 0
  pub under_lowest : (e : CountedEdge) → Contains es e → e.a ≡ q → NoneTakenBelow taken q (ends_of e) →
      winding_under es taken (ends_of e) ≡ pos 0
  pub beside_earlier : (hand : Hand) (s : Step) → Contains steps s → StepHasEndBefore q s →
      winding_beside hand es taken s ≡ pos 0
  pub over_top_step : (s : Step) → Contains steps s → (edge_of s).a ≡ q → NoneTakenAbove taken q (edge_of s) →
      winding_over es taken (edge_of s) ≡ pos 0
  pub under_lowest_step : (s : Step) → Contains steps s → (edge_of s).a ≡ q → NoneTakenBelow taken q (edge_of s) →
      winding_under es taken (edge_of s) ≡ pos 0

abbrev pub NothingBeforeTheSteps : Type 0
NothingBeforeTheSteps = (es : List CountedEdge) (steps taken : List Step) → WalksAlong es steps →
    IsBalancedPart es steps taken →
    (q : Point) → NoneHasEndBefore taken q → IsOutsideOfSteps es steps taken q

-- the leftmost lowest end of the steps taken, and the steps taken along their top edge and along their lowest edge
-- there
pub record HasLeftmost (taken : List Step) : Type 0 where
  pub point : Point
  pub none_before : NoneHasEndBefore taken point
  pub top : Step
  pub top_taken : Contains taken top
  pub top_starts : (edge_of top).a ≡ point
  pub none_above : NoneTakenAbove taken point (edge_of top)
  pub lowest : Step
  pub lowest_taken : Contains taken lowest
  pub lowest_starts : (edge_of lowest).a ≡ point
  pub none_below : NoneTakenBelow taken point (edge_of lowest)

-- where a step is taken, the steps taken have such an end
abbrev pub LeftmostStepsExist : Type 0
LeftmostStepsExist = (es : List CountedEdge) (steps taken : List Step) → WalksAlong es steps →
    ((s : Step) → Contains taken s → Contains steps s) →
    (s : Step) → Contains taken s → HasLeftmost taken
