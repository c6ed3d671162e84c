-- The walks so far are added, and the role is that of the next.
use Rattle.std.proofs.Common.{◌≡◌, ◌++◌}
use Rattle.std.specs.Vec.Iter.{into_iter_items}
use Rattle.overlay_walk.proofs.GroupContours.{role_after, as_group}
use Rattle.overlay_walk.proofs.group_contours.push_walks.Given as goal

abbrev pub invariant-loop-steps : goal.invariant-loop-steps
invariant-loop-steps g l =
    (goal.iterator-loop-steps g).can_next l.steps-iterator ×
    (goal.iterator-loop-steps g).is_finite l.steps-iterator ×
    (l.fn.walks.items ≡ l.yielded ++ into_iter_items l.steps-iterator) ×
    (l.contours.items ≡ l.initial.contours.items ++ as_group g.I.IntNumber.whole l.number l.yielded) ×
    (l.role ≡ role_after l.number l.yielded)
