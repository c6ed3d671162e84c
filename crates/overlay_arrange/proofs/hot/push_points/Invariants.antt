-- The points of the meetings so far are behind the earlier points, but for some that are there already.
use Rattle.std.proofs.Common.{◌++◌, map, take}
use Rattle.overlay_geom.specs.Points.{plain_points}
use Rattle.overlay_arrange.specs.HotPoints.{HaveSameMembers}
use Rattle.overlay_arrange.specs.Meetings.{plain_meetings, Meeting}
use Rattle.overlay_arrange.proofs.hot.push_points.Given as goal

abbrev pub invariant-loop-i : goal.invariant-loop-i
invariant-loop-i g l =
    let whole = g.I.IntNumber.whole in
    HaveSameMembers (plain_points whole l.initial.points.items
    ++ map (λ (m : Meeting). m.point) (plain_meetings whole (take l.i l.meetings))) (plain_points whole l.points.items)
