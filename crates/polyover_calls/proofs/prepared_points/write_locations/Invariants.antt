-- The first points are told of in the first places.
use Rattle.polyover_calls.proofs.AskedPoints.{AreToldUpTo}
use Rattle.polyover_calls.specs.Arrays.{points_of}
use Rattle.polyover_calls.specs.Prepared.{parts_of}
use Rattle.polyover_calls.proofs.prepared_points.write_locations.Given as goal

abbrev pub invariant-loop-at : goal.invariant-loop-at
invariant-loop-at g l = AreToldUpTo g.I.IntNumber.whole
    (parts_of g.I.IntNumber.whole g.E.FormOf.meant g.B.FormOf.meant l.parts).edges (points_of l.points)
    l.initial.locations l.at l.locations
