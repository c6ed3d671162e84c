-- The box so far is that of the points so far.
use Rattle.std.proofs.Common.{◌++◌, List, take}
use Rattle.overlay_geom.specs.Plane.{Point}
use Rattle.overlay_geom.specs.Points.{plain_points}
use Rattle.overlay_tiles.specs.Spans.{IsBoxFound}
use Rattle.overlay_tiles.proofs.span.widened.Given as goal

abbrev pub invariant-loop-point : goal.invariant-loop-point
invariant-loop-point g l =
    (seen : List Point) → IsBoxFound g.I.IntNumber.whole seen l.fn.bounds →
    IsBoxFound g.I.IntNumber.whole (seen ++ plain_points g.I.IntNumber.whole (take l.point-index l.points)) l.wider
