-- Both are in the span, and each number of the span between left and right lies between them.
use Rattle.std.proofs.Common.{sym, ◌∙◌}
use Rattle.overlay_geom.proofs.PointOrder.{Decides-point_lt}
use Rattle.overlay_geom.proofs.Signs.{linear}
use Rattle.overlay_plane.proofs.Tests.{ge_from_test, lt_from_test}
use Rattle.overlay_order.specs.Content.{plain_edge}
use Rattle.overlay_arrange.proofs.SpanWithin.{amid_moved, between_falling, between_rising}
use Rattle.overlay_arrange.proofs.pixel_runs.x_along.Goals as goal

pub returns-then-is_less-clause-first : goal.returns-then-is_less-clause-first
returns-then-is_less-clause-first g c =
    let whole = g.I.IntNumber.whole in
    let e = plain_edge whole g.C.EdgeCount.counts c.args.e.now in
    amid_moved e ((Decides-point_lt e.a e.b).0 c.requires.forward).x (whole c.args.left) _ c.x_within-first.ensures

pub returns-then-is_less-clause-last : goal.returns-then-is_less-clause-last
returns-then-is_less-clause-last g c =
    let whole = g.I.IntNumber.whole in
    let e = plain_edge whole g.C.EdgeCount.counts c.args.e.now in
    amid_moved e ((Decides-point_lt e.a e.b).0 c.requires.forward).x (whole c.args.right) _ c.x_within-last.ensures

pub returns-then-is_less-clause-between : goal.returns-then-is_less-clause-between
returns-then-is_less-clause-between g c =
    let whole = g.I.IntNumber.whole in
    let e = plain_edge whole g.C.EdgeCount.counts c.args.e.now in
    let rises = lt_from_test e.a.y e.b.y (sym c.is_less.ensures ∙ c.if-is_less.true) in
    between_rising e ((Decides-point_lt e.a e.b).0 c.requires.forward).x (whole c.args.left) (whole c.args.right) _ _
    (omega (linear, rises)) c.x_within-first.ensures c.x_within-last.ensures

pub returns-else-is_less-clause-first : goal.returns-else-is_less-clause-first
returns-else-is_less-clause-first g c =
    let whole = g.I.IntNumber.whole in
    let e = plain_edge whole g.C.EdgeCount.counts c.args.e.now in
    amid_moved e ((Decides-point_lt e.a e.b).0 c.requires.forward).x (whole c.args.right) _ c.x_within-last.ensures

pub returns-else-is_less-clause-last : goal.returns-else-is_less-clause-last
returns-else-is_less-clause-last g c =
    let whole = g.I.IntNumber.whole in
    let e = plain_edge whole g.C.EdgeCount.counts c.args.e.now in
    amid_moved e ((Decides-point_lt e.a e.b).0 c.requires.forward).x (whole c.args.left) _ c.x_within-first.ensures

pub returns-else-is_less-clause-between : goal.returns-else-is_less-clause-between
returns-else-is_less-clause-between g c =
    let whole = g.I.IntNumber.whole in
    let e = plain_edge whole g.C.EdgeCount.counts c.args.e.now in
    between_falling e ((Decides-point_lt e.a e.b).0 c.requires.forward).x (whole c.args.left) (whole c.args.right) _ _
    (ge_from_test e.a.y e.b.y (sym c.is_less.ensures ∙ c.if-is_less.false)) c.x_within-last.ensures
    c.x_within-first.ensures
