-- The points so far are those that the iterator gave.
use Rattle.std.proofs.Common.{◌≡◌}
use Rattle.overlay_builder.proofs.points.gathered.Given as goal

abbrev pub invariant-loop-point : goal.invariant-loop-point
invariant-loop-point g l =
    (goal.iterator-loop-point g).can_next l.point-iterator × (goal.iterator-loop-point g).is_finite l.point-iterator
    × (l.points.items ≡ l.yielded)
