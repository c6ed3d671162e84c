-- The points of the queries so far.
use Rattle.std.proofs.Common.{◌≡◌, take}
use Rattle.overlay_geom.specs.Points.{plain_points}
use Rattle.overlay_relate.specs.Queries.{plain_queries, points_asked}
use Rattle.overlay_relate.proofs.queries.points_asked.Given as goal

abbrev pub invariant-loop-query : goal.invariant-loop-query
invariant-loop-query g l =
    let whole = g.I.IntNumber.whole in
    plain_points whole l.points.items ≡ points_asked (plain_queries whole (take l.query-index l.queries))
