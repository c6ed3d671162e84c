-- The points kept so far, followed by the points to come, have the thinned list of all points.
use Rattle.std.proofs.Common.{◌++◌, drop}
use Rattle.overlay_geom.specs.Points.{plain_points, AllInRange}
use Rattle.overlay_geom.specs.Narrowed.{IsNarrowed, IsBentInside}
use Rattle.overlay_geom.proofs.thin.write_bent.Given as goal

abbrev pub invariant-loop-point : goal.invariant-loop-point
invariant-loop-point g l = record {
  narrowed : IsNarrowed (plain_points g.I.IntNumber.whole l.points)
      (plain_points g.I.IntNumber.whole l.bent.items ++ plain_points g.I.IntNumber.whole (drop l.point-index l.points));
  bent : IsBentInside (plain_points g.I.IntNumber.whole l.bent.items);
  in_range : AllInRange g.I.IntNumber.limit (plain_points g.I.IntNumber.whole l.bent.items);
}
