-- The cross product decides for edges from one point, and else the starts do.
use Rattle.std.proofs.Common.{ap, sym, ◌∙◌}
use Rattle.std.specs.Ordering.{is_lt}
use Rattle.overlay_geom.specs.Resolved.{plain_edge}
use Rattle.overlay_walk.proofs.StartOrder.{one_start, other_start}
use Rattle.overlay_walk.proofs.top_first.comes_before.Goals as goal

pub returns-then-is_same : goal.returns-then-is_same
returns-then-is_same g c =
    let whole = g.I.IntNumber.whole in
    c.is_lt.ensures ∙ ap is_lt c.sign.ensures
    ∙ one_start (plain_edge whole c.args.e) (plain_edge whole c.args.f) _ (sym c.is_same.ensures ∙ c.if-is_same.true)
    c.cross_at.ensures.value

pub returns-else-is_same : goal.returns-else-is_same
returns-else-is_same g c =
    let whole = g.I.IntNumber.whole in
    c.is_before.ensures
    ∙ other_start (plain_edge whole c.args.e) (plain_edge whole c.args.f) (sym c.is_same.ensures ∙ c.if-is_same.false)
