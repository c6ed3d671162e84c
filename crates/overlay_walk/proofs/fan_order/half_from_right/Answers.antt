-- The way down tells, or the way up.
use Rattle.std.proofs.Common.{pos, int_cmp, sym, ap, ◌∙◌}
use Rattle.overlay_geom.specs.Points.{plain_point}
use Rattle.overlay_plane.specs.Turn.{turn}
use Rattle.overlay_walk.specs.Fans.{right_of}
use Rattle.overlay_walk.specs.Steps.{plain_hand}
use Rattle.overlay_walk.proofs.FromRight.{half_by_left, half_by_right}
use Rattle.overlay_walk.proofs.fan_order.half_from_right.Goals as goal

pub returns-in-Left : goal.returns-in-Left
returns-in-Left g c =
    let v = plain_point g.I.IntNumber.whole c.args.node in
    let p = plain_point g.I.IntNumber.whole c.args.p in
    c.compare.ensures ∙ half_by_left v p
    ∙ ap (λ h. int_cmp (pos 0) (turn (plain_hand h) v (right_of v) p)) (sym c.in-Left.is)

pub returns-in-Right : goal.returns-in-Right
returns-in-Right g c =
    let v = plain_point g.I.IntNumber.whole c.args.node in
    let p = plain_point g.I.IntNumber.whole c.args.p in
    c.compare-in-Right.ensures ∙ half_by_right v p
    ∙ ap (λ h. int_cmp (pos 0) (turn (plain_hand h) v (right_of v) p)) (sym c.in-Right.is)
