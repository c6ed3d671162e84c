-- Up to the leftmost lowest point of the steps taken, edges have count 0, so the winding of the steps is 0 there.
use Rattle.std.proofs.Common.{◌≡◌, inl, inr, Bool, true, false, cond, ℤ, pos, List, Contains, sym, ap, ◌∙◌, subst}
use Rattle.std.proofs.lemmas.Bool.{both_ways}
use Rattle.overlay_geom.specs.Plane.{Point, Step, point_lt, is_forward, edge_of}
use Rattle.overlay_geom.specs.Edges.{CountedEdge, ends_of}
use Rattle.overlay_plane.specs.Turn.{Hand}
use Rattle.overlay_plane.specs.Turn.Hand.{left, right}
use Rattle.overlay_plane.specs.Nodes.{turns_left}
use Rattle.overlay_plane.specs.Leftmost.{CountsNothingBefore, HasEndBefore, CountsNothingAbove, CountsNothingBelow}
use Rattle.overlay_plane.specs.Leftmost.{IsOutsideUpTo}
use Rattle.overlay_plane.specs.BesideOrbits.{count_on, winding_under, winding_over, winding_beside, WalksAlong}
use Rattle.overlay_plane.specs.BesideOrbits.{IsBalancedPart}
use Rattle.overlay_plane.specs.LeftmostSteps.{StepHasEndBefore, NoneHasEndBefore, NoneTakenAbove, NoneTakenBelow}
use Rattle.overlay_plane.specs.LeftmostSteps.{NothingBeforeTheSteps}
use Rattle.overlay_plane.proofs.LeftmostPoints.{nothing_before_the_leftmost}
use Rattle.overlay_plane.proofs.StepTotals.{unwalked_counts_nothing}
use Rattle.overlay_plane.proofs.EdgesOfSteps.{edge_by}

-- a step along an edge that starts before q has an end before q
pub end_before : (q : Point) (s : Step) (e : CountedEdge) → edge_of s ≡ ends_of e → point_lt e.a q ≡ true →
    StepHasEndBefore q s
end_before q s e along before = by (is_forward s) along
  where
    by : (t : Bool) → edge_by t s ≡ ends_of e → StepHasEndBefore q s
    by true is = inl (ap (λ f. point_lt f.a q) is ∙ before)
    by false is = inr (ap (λ f. point_lt f.a q) is ∙ before)

-- and the edge of a step with an end before q has one too
pub edge_end_before : (q : Point) (s : Step) (e : CountedEdge) → edge_of s ≡ ends_of e → StepHasEndBefore q s →
    HasEndBefore q e
edge_end_before q s e along before = by (is_forward s) along before
  where
    by : (t : Bool) → edge_by t s ≡ ends_of e → StepHasEndBefore q s → HasEndBefore q e
    by true is (inl from) = inl (sym (ap (λ f. point_lt f.a q) is) ∙ from)
    by true is (inr to) = inr (sym (ap (λ f. point_lt f.b q) is) ∙ to)
    by false is (inl from) = inr (sym (ap (λ f. point_lt f.b q) is) ∙ from)
    by false is (inr to) = inl (sym (ap (λ f. point_lt f.a q) is) ∙ to)

-- a choice of two numbers that are 0
chosen_zero : (t : Bool) (x y : ℤ) → x ≡ pos 0 → y ≡ pos 0 → cond t x y ≡ pos 0
chosen_zero true x y at_x at_y = at_x
chosen_zero false x y at_x at_y = at_y

module _ (es : List CountedEdge) (steps taken : List Step) (walks : WalksAlong es steps)
    (part : IsBalancedPart es steps taken) (q : Point) (none : NoneHasEndBefore taken q) where
  -- edges that start before q have count 0
  nothing_before : CountsNothingBefore (count_on taken) es q
  nothing_before e at before = unwalked_counts_nothing taken e (λ s c along. none s c (end_before q s e along before))

  -- the law of leftmost points holds of the counts of the steps
  outside : IsOutsideUpTo (count_on taken) es q
  outside = nothing_before_the_leftmost (count_on taken) es
      (record { planar = walks.planar; balanced = part.balanced })
      q nothing_before

  -- where no step is taken above an edge, no edge above it counts
  nothing_above : (e : CountedEdge) → NoneTakenAbove taken q (ends_of e) → CountsNothingAbove (count_on taken) es q e
  nothing_above e free f at starts turns = unwalked_counts_nothing taken f
      (λ s c along. both_ways (turns_left (ends_of e) (edge_of s)) (free s c (ap (λ g. g.a) along ∙ starts))
      (ap (λ g. turns_left (ends_of e) g) along ∙ turns))

  -- and where none is taken below it, none below it
  nothing_below : (e : CountedEdge) → NoneTakenBelow taken q (ends_of e) → CountsNothingBelow (count_on taken) es q e
  nothing_below e free f at starts turns = unwalked_counts_nothing taken f
      (λ s c along. both_ways (turns_left (edge_of s) (ends_of e)) (free s c (ap (λ g. g.a) along ∙ starts))
      (ap (λ g. turns_left g (ends_of e)) along ∙ turns))

  -- the winding is 0 above the top edge
  over_top : (e : CountedEdge) → Contains es e → e.a ≡ q → NoneTakenAbove taken q (ends_of e) →
      winding_over es taken (ends_of e) ≡ pos 0
  over_top e at starts free = outside.above_top e at starts (nothing_above e free)

  -- and below the lowest
  under_lowest : (e : CountedEdge) → Contains es e → e.a ≡ q → NoneTakenBelow taken q (ends_of e) →
      winding_under es taken (ends_of e) ≡ pos 0
  under_lowest e at starts free = outside.below_lowest e at starts (nothing_below e free)

  module _ (s : Step) (c : Contains steps s) where
    -- the edge of a step of the set
    own : CountedEdge
    own = (walks.along s c).0

    -- along which it walks
    along : edge_of s ≡ ends_of own
    unfolding own
    along = (walks.along s c).2

    -- is one of the list
    entry : Contains es own
    unfolding own
    entry = (walks.along s c).1

    -- above an earlier step the winding is 0
    over_step : StepHasEndBefore q s → winding_over es taken (edge_of s) ≡ pos 0
    over_step before = ap (λ f. winding_over es taken f) along
        ∙ outside.above_earlier own entry (edge_end_before q s own along before)

    -- below it
    under_step : StepHasEndBefore q s → winding_under es taken (edge_of s) ≡ pos 0
    under_step before = ap (λ f. winding_under es taken f) along
        ∙ outside.below_earlier own entry (edge_end_before q s own along before)

    -- and so on either side
    beside_step : (hand : Hand) → StepHasEndBefore q s → winding_beside hand es taken s ≡ pos 0
    beside_step left before = chosen_zero (is_forward s) (winding_over es taken (edge_of s))
        (winding_under es taken (edge_of s)) (over_step before) (under_step before)
    beside_step right before = chosen_zero (is_forward s) (winding_under es taken (edge_of s))
        (winding_over es taken (edge_of s)) (under_step before) (over_step before)

    -- above a step along the top edge the winding is 0
    over_top_step : (edge_of s).a ≡ q → NoneTakenAbove taken q (edge_of s) → winding_over es taken (edge_of s) ≡ pos 0
    over_top_step starts free = ap (λ f. winding_over es taken f) along
        ∙ over_top own entry (sym (ap (λ f. f.a) along) ∙ starts) (subst (λ f. NoneTakenAbove taken q f) along free)

    -- and below a step along the lowest
    under_lowest_step : (edge_of s).a ≡ q → NoneTakenBelow taken q (edge_of s) →
        winding_under es taken (edge_of s) ≡ pos 0
    under_lowest_step starts free = ap (λ f. winding_under es taken f) along
        ∙ under_lowest own entry (sym (ap (λ f. f.a) along) ∙ starts) (subst (λ f. NoneTakenBelow taken q f) along free)

-- the law of the steps taken
pub nothing_before_the_steps : NothingBeforeTheSteps
nothing_before_the_steps es steps taken walks part q none = record {
  under_earlier = (outside es steps taken walks part q none).below_earlier;
  over_earlier = (outside es steps taken walks part q none).above_earlier;
  over_top = over_top es steps taken walks part q none;
  under_lowest = under_lowest es steps taken walks part q none;
  beside_earlier = λ hand s c. beside_step es steps taken walks part q none s c hand;
  over_top_step = over_top_step es steps taken walks part q none;
  under_lowest_step = under_lowest_step es steps taken walks part q none;
}
