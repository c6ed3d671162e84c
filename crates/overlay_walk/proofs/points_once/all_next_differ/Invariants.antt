-- The points to come differ one from another as all do.
use Rattle.std.proofs.Common.{◌≡◌, drop}
use Rattle.overlay_geom.specs.Points.{plain_point, plain_points}
use Rattle.overlay_walk.specs.PointsOnce.{differ_along, all_next_differ}
use Rattle.overlay_walk.proofs.points_once.all_next_differ.Given as goal

abbrev pub invariant-loop-number : goal.invariant-loop-number
invariant-loop-number g l =
    let whole = g.I.IntNumber.whole in
    differ_along (plain_point whole l.last) (plain_points whole (drop l.number l.points))
    ≡ all_next_differ (plain_points whole l.points)
