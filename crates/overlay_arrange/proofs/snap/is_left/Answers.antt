-- Points before one that lies left of x do too.
use Rattle.std.proofs.Common.{◌<ℤ◌, get_or, sym, ◌∙◌, subst}
use Rattle.overlay_geom.specs.declared.point.IntPoint.{IntPoint}
use Rattle.overlay_plane.proofs.Tests.{lt_from_test}
use Rattle.overlay_arrange.proofs.HotRanks.{left_up_to}
use Rattle.overlay_arrange.proofs.snap.is_left.Goals as goal

pub returns-then-rank-hot : goal.returns-then-rank-hot
returns-then-rank-hot g c = λ is.
    let whole = g.I.IntNumber.whole in
    let v = c.index-hot-rank.result in
    left_up_to whole c.args.hot.now c.requires (whole c.args.x) c.args.rank v c.if-rank-hot.true c.index-hot-rank.is
    (subst (λ (u : IntPoint _). whole u.x <ℤ whole c.args.x) (sym c.index-hot-rank.is)
    (lt_from_test (whole (get_or c.args.hot.now c.args.rank v).x) (whole c.args.x) (sym c.is_less.ensures ∙ is)))
