-- The point before the rank lies left of x.
use Rattle.std.proofs.Common.{◌≡◌, ◌+◌, ◌-◌, subst, arith}
use Rattle.overlay_geom.specs.Points.{plain_points}
use Rattle.overlay_arrange.specs.HotPoints.{AreLeftBefore}
use Rattle.overlay_arrange.proofs.snap.is_behind_left.Goals as goal

pub returns-then-rank-gt0 : goal.returns-then-rank-gt0
returns-then-rank-gt0 g c = λ is.
    let whole = g.I.IntNumber.whole in
    let some = c.if-rank-gt0.true in
    let same : (c.args.rank - 1) + 1 ≡ c.args.rank = omega (arith, some) in
    subst (AreLeftBefore (plain_points whole c.args.hot.now) (whole c.args.x)) same (c.is_left.ensures is)
