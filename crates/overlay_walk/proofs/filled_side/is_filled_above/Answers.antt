-- The filled side is the left or the right side, by the direction.
use Rattle.std.proofs.Common.{not, sym, ap, ◌∙◌}
use Rattle.overlay_plane.specs.Contours.{is_filled_above}
use Rattle.overlay_walk.specs.Steps.{plain_step, filled_hand}
use Rattle.overlay_walk.proofs.filled_side.is_filled_above.Goals as goal

pub returns-in-CounterClockwise : goal.returns-in-CounterClockwise
returns-in-CounterClockwise g c =
    c.is_forward.ensures
    ∙ ap (λ d. is_filled_above (filled_hand d) (plain_step g.I.IntNumber.whole c.args.step.now))
    (sym c.in-CounterClockwise.is)

pub returns-in-Clockwise : goal.returns-in-Clockwise
returns-in-Clockwise g c =
    ap not c.is_forward-in-Clockwise.ensures
    ∙ ap (λ d. is_filled_above (filled_hand d) (plain_step g.I.IntNumber.whole c.args.step.now)) (sym c.in-Clockwise.is)
