-- The points so far are those of the meetings so far.
use Rattle.std.proofs.Common.{◌≡◌, map, take}
use Rattle.overlay_geom.specs.Points.{plain_points}
use Rattle.overlay_arrange.specs.Meetings.{plain_meetings, Meeting}
use Rattle.overlay_arrange.proofs.cut.put_points.Given as goal

abbrev pub invariant-loop-m : goal.invariant-loop-m
invariant-loop-m g l =
    plain_points g.I.IntNumber.whole l.points.items ≡ map (λ (m : Meeting). m.point)
    (plain_meetings g.I.IntNumber.whole (take l.m-index l.meetings))
