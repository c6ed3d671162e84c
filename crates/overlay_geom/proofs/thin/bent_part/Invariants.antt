-- The points and the range that is left have one thinned list, and the range gets shorter.
use Rattle.std.proofs.Common.{◌-◌, ◌≤◌, length, slice_range}
use Rattle.overlay_geom.specs.Points.{plain_points}
use Rattle.overlay_geom.specs.Narrowed.{IsNarrowed}
use Rattle.overlay_geom.proofs.thin.bent_part.Given as goal

abbrev pub invariant-loop-to : goal.invariant-loop-to
invariant-loop-to g l = record {
  narrowed : IsNarrowed (plain_points g.I.IntNumber.whole l.points)
      (plain_points g.I.IntNumber.whole (slice_range l.points l.from l.to));
  ordered : l.from ≤ l.to;
  within : l.to ≤ length l.points;
}

abbrev pub decreases-loop-to : goal.decreases-loop-to
decreases-loop-to g l = l.to - l.from
