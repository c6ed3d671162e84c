-- The points so far are numbered.
use Rattle.std.proofs.Common.{◌≡◌, take}
use Rattle.overlay_geom.specs.Numbered.{numbered}
use Rattle.overlay_geom.specs.Points.{plain_points}
use Rattle.overlay_relate.specs.Queries.{plain_queries}
use Rattle.overlay_relate.proofs.queries.queries_in_order.Given as goal

abbrev pub invariant-loop-place : goal.invariant-loop-place
invariant-loop-place g l =
    let whole = g.I.IntNumber.whole in
    plain_queries whole l.queries.items ≡ numbered 0 (plain_points whole (take l.place l.points))
