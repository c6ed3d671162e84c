use Rattle.polyover_text.proofs.PointLists.{one_more_point, all_points}
use Rattle.polyover_text.proofs.points.parse_points.Goals as goal

pub loop-points-preserved : goal.loop-points-preserved
loop-points-preserved g c =
    let first = rw c.in-Some.is at c.in_ok-point.ensures in
    rw c.in_ok-push.ensures.items (one_more_point _ c.loop-points.points.items _ c.in-Some.point _
    c.loop-points.invariant first)

pub returns : goal.returns
returns g c =
    let ended = rw c.in_default.is at c.in_ok-point.ensures in
    all_points _ _ _ c.loop-points.invariant ended
