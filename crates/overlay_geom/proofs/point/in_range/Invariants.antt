-- The points so far are in range.
use Rattle.std.proofs.Common.{take}
use Rattle.overlay_geom.specs.Points.{plain_points, AllInRange}
use Rattle.overlay_geom.proofs.point.in_range.Given as goal

abbrev pub invariant-loop-p : goal.invariant-loop-p
invariant-loop-p g l = AllInRange g.I.IntNumber.limit (plain_points g.I.IntNumber.whole (take l.p-index l.points))
