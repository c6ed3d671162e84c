-- At one point the directions tell, and else the points.
use Rattle.std.proofs.Common.{sym, ◌∙◌}
use Rattle.overlay_walk.specs.Steps.{plain_hand, plain_step}
use Rattle.overlay_walk.proofs.FannedSteps.{at_one_point, at_other_points}
use Rattle.overlay_walk.proofs.fan_order.stands_before.Goals as goal

pub returns-then-is_same : goal.returns-then-is_same
returns-then-is_same g c =
    let whole = g.I.IntNumber.whole in
    c.is_met_from_right.ensures
    ∙ at_one_point (plain_hand c.args.hand) (plain_step whole c.args.s) (plain_step whole c.args.t)
    (sym c.is_same.ensures ∙ c.if-is_same.true)

pub returns-else-is_same : goal.returns-else-is_same
returns-else-is_same g c =
    let whole = g.I.IntNumber.whole in
    c.is_before.ensures
    ∙ at_other_points (plain_hand c.args.hand) (plain_step whole c.args.s) (plain_step whole c.args.t)
    (sym c.is_same.ensures ∙ c.if-is_same.false)
