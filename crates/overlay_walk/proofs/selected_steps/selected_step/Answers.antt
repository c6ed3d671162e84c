-- An edge with the region on both sides, or on neither, has no step. Another edge has the step with that side on its
-- left, or on its right.
use Rattle.std.proofs.Common.{◌≡◌, cond, sym, ap, ◌∙◌}
use Rattle.overlay_plane.specs.SelectedSteps.{step_with_left}
use Rattle.overlay_plane.specs.Turn.{is_left_hand}
use Rattle.overlay_order.specs.Vectors.{plain_vector}
use Rattle.overlay_walk.specs.Steps.{filled_hand}
use Rattle.overlay_walk.specs.Selection.{ends}
use Rattle.overlay_walk.proofs.OneSide.{no_step, one_step}
use Rattle.overlay_walk.proofs.selected_steps.selected_step.Goals as goal
use Rattle.overlay_walk.proofs.selected_steps.selected_step.Goals.{in-CounterClockwise, in-Clockwise}

pub returns-then-above-below-clause-step : goal.returns-then-above-below-clause-step
returns-then-above-below-clause-step g c =
    no_step (filled_hand c.args.direction) (λ t. step_with_left t (ends (plain_vector g.I.IntNumber.whole c.args.edge)))
    _ _ _ _
    c.holds_above-above.ensures c.holds_below-below.ensures c.if-above-below.true

pub returns-clause-step : goal.returns-clause-step
returns-clause-step g c =
    let above = c.holds_above-above.result in
    let below = c.holds_below-below.result in
    let along : c.match-direction.goes_along ≡ cond (is_left_hand (filled_hand c.args.direction)) above below =
    elim c.match-direction.branch [
      | in-CounterClockwise w ↦ w.goes_along-is ∙ ap (λ d. cond (is_left_hand (filled_hand d)) above below)
          (sym w.in-CounterClockwise.is)
      | in-Clockwise w ↦ w.goes_along-is ∙ ap (λ d. cond (is_left_hand (filled_hand d)) above below)
          (sym w.in-Clockwise.is)
    ] in
    one_step (filled_hand c.args.direction)
    (λ t. step_with_left t (ends (plain_vector g.I.IntNumber.whole c.args.edge)))
    above below _ _
    c.holds_above-above.ensures c.holds_below-below.ensures c.match-direction.goes_along _ c.if-above-below.false along
    c.step_along.ensures.step

pub returns-clause-along : goal.returns-clause-along
returns-clause-along g c = record {
  above = c.match-direction.goes_along;
  along = c.step_along.ensures.step;
  numbered =
      c.step_along.ensures.number;
}
