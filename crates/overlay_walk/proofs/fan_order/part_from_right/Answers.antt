-- The heights tell the half turn, and on one level the abscissas tell the rest.
use Rattle.std.proofs.Common.{sym, ◌∙◌}
use Rattle.std.specs.declared.cmp.Ordering.TheVariants.{Less, Equal, Greater}
use Rattle.overlay_geom.specs.Points.{plain_point}
use Rattle.overlay_walk.specs.Steps.{plain_hand}
use Rattle.overlay_walk.proofs.FromRight.{part_by}
use Rattle.overlay_walk.proofs.fan_order.part_from_right.Goals as goal

pub returns-in-Less : goal.returns-in-Less
returns-in-Less g c =
    let whole = g.I.IntNumber.whole in
    part_by (plain_hand c.args.hand) (plain_point whole c.args.node) (plain_point whole c.args.p) Less
    (sym c.in-Less.is ∙ c.half_from_right.ensures)

pub returns-in-Equal : goal.returns-in-Equal
returns-in-Equal g c =
    let whole = g.I.IntNumber.whole in
    c.part_on_level.ensures
    ∙ part_by (plain_hand c.args.hand) (plain_point whole c.args.node) (plain_point whole c.args.p) Equal
    (sym c.in-Equal.is ∙ c.half_from_right.ensures)

pub returns-in-Greater : goal.returns-in-Greater
returns-in-Greater g c =
    let whole = g.I.IntNumber.whole in
    part_by (plain_hand c.args.hand) (plain_point whole c.args.node) (plain_point whole c.args.p) Greater
    (sym c.in-Greater.is ∙ c.half_from_right.ensures)
