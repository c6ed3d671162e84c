-- One more point lies left of x.
use Rattle.std.proofs.Common.{◌<ℤ◌, get_or, sym, ◌∙◌, subst}
use Rattle.overlay_geom.specs.declared.point.IntPoint.{IntPoint}
use Rattle.overlay_plane.proofs.Tests.{lt_from_test}
use Rattle.overlay_arrange.proofs.HotRanks.{left_up_to}
use Rattle.overlay_arrange.proofs.snap.count_left_of.Goals as goal

pub loop-at-preserved : goal.loop-at-preserved
loop-at-preserved g c =
    let whole = g.I.IntNumber.whole in
    let v = c.index-hot-at.result in
    left_up_to whole c.args.hot.now c.requires (whole c.args.x) c.loop-at.at v c.loop-at-test.true c.index-hot-at.is
    (subst (λ (u : IntPoint _). whole u.x <ℤ whole c.args.x) (sym c.index-hot-at.is)
    (lt_from_test (whole (get_or c.args.hot.now c.loop-at.at v).x) (whole c.args.x)
    (sym c.is_less.ensures ∙ c.if-is_less.true)))
