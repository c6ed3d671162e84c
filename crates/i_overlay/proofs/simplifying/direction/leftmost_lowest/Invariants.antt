-- No point so far is smaller than the one at the place.
use Rattle.std.proofs.Common.{◌<◌, length}
use Rattle.overlay_geom.specs.Points.{plain_points}
use Rattle.i_overlay.proofs.LeastPoints.{IsLeastUpTo}
use Rattle.i_overlay.proofs.simplifying.direction.leftmost_lowest.Given as goal

abbrev pub invariant-loop-number : goal.invariant-loop-number
invariant-loop-number g l =
    (l.place < length l.points) × IsLeastUpTo (plain_points g.I.IntNumber.whole l.points) l.number l.place
