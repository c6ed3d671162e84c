-- The points of the span are taken, or those that strips find.
use Rattle.std.proofs.Common.{◌≤◌, length, sym, subst, arith}
use Rattle.std.proofs.lemmas.List.{length-map}
use Rattle.std.proofs.lemmas.Result.{on_ok_weaker}
use Rattle.overlay_geom.specs.Points.{plain_point, plain_points}
use Rattle.overlay_geom.proofs.PointOrder.{Decides-point_lt}
use Rattle.overlay_order.specs.Content.{plain_edge}
use Rattle.overlay_arrange.specs.HotPoints.{AreMetAmong}
use Rattle.overlay_arrange.proofs.SpanAmong.{span_among}
use Rattle.overlay_arrange.proofs.snap.take_near.Goals as goal

pub returns-else-goes_on-clause-ok : goal.returns-else-goes_on-clause-ok
returns-else-goes_on-clause-ok g c =
    let whole = g.I.IntNumber.whole in
    let vs = plain_points whole c.args.hot.now in
    let e = plain_edge whole g.C.EdgeCount.counts c.args.e.now in
    let high = c.place_up_to-high.result in
    let within : high ≤ length vs = (let l = length-map c.args.hot.now (plain_point whole) in
    let up_to = c.place_up_to-high.ensures.within in omega (arith, l, up_to)) in
    on_ok_weaker c.take_range.result
    (λ taken. subst (AreMetAmong vs e) (sym taken) (span_among vs e c.args.low high
    ((Decides-point_lt e.a e.b).0 c.requires.one.forward).x c.requires.left within
    (c.goes_on.ensures.right c.if-goes_on.false))) c.take_range.ensures.ok
