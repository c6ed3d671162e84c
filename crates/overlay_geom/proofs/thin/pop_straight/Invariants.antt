-- The rest keeps its thinned list before the next point, is bent inside, and is in range.
use Rattle.std.proofs.Common.{vec_len}
use Rattle.overlay_geom.specs.Points.{plain_point, plain_points, AllInRange}
use Rattle.overlay_geom.specs.Narrowed.{IsNarrowedBefore, IsBentInside}
use Rattle.overlay_geom.proofs.thin.pop_straight.Given as goal

abbrev pub invariant-loop-bent : goal.invariant-loop-bent
invariant-loop-bent g l = record {
  narrowed : IsNarrowedBefore (plain_point g.I.IntNumber.whole l.next)
      (plain_points g.I.IntNumber.whole l.initial.bent.items) (plain_points g.I.IntNumber.whole l.bent.items);
  bent : IsBentInside (plain_points g.I.IntNumber.whole l.bent.items);
  in_range : AllInRange g.I.IntNumber.limit (plain_points g.I.IntNumber.whole l.bent.items);
}

abbrev pub decreases-loop-bent : goal.decreases-loop-bent
decreases-loop-bent g l = vec_len l.bent
