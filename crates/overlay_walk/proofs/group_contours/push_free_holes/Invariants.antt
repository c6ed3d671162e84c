-- The walks so far are added.
use Rattle.std.proofs.Common.{◌≡◌, ◌++◌, map}
use Rattle.std.specs.Vec.Iter.{into_iter_items}
use Rattle.overlay_walk.specs.declared.contour.Role.TheVariants.{FreeHole}
use Rattle.overlay_walk.proofs.GroupContours.{as_contour}
use Rattle.overlay_walk.proofs.group_contours.push_free_holes.Given as goal

abbrev pub invariant-loop-steps : goal.invariant-loop-steps
invariant-loop-steps g l =
    (goal.iterator-loop-steps g).can_next l.steps-iterator ×
    (goal.iterator-loop-steps g).is_finite l.steps-iterator ×
    (l.fn.walks.items ≡ l.yielded ++ into_iter_items l.steps-iterator) ×
    (l.contours.items ≡ l.initial.contours.items ++ map (as_contour g.I.IntNumber.whole FreeHole) l.yielded)
