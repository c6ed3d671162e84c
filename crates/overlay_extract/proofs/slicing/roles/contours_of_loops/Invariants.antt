-- The contours so far have the loops so far and their roles, whichever contours with roles come after them.
use Rattle.std.proofs.Common.{◌≡◌, ◌≤◌, ◌++◌, List, length}
use Rattle.std.specs.Vec.Iter.{into_iter_items}
use Rattle.overlay_plane.specs.BoundContours.{walks_in}
use Rattle.overlay_plane.specs.RoledContours.{Contour}
use Rattle.overlay_extract.specs.Bound.{HaveRoles}
use Rattle.overlay_walk.specs.GroupedContours.{plain_contours}
use Rattle.overlay_walk.specs.Walks.{plain_walks}
use Rattle.overlay_extract.proofs.slicing.roles.contours_of_loops.Given as goal

abbrev pub invariant-loop-steps : goal.invariant-loop-steps
invariant-loop-steps g l =
    let whole = g.I.IntNumber.whole in
    (goal.iterator-loop-steps g).can_next l.steps-iterator ×
    (goal.iterator-loop-steps g).is_finite l.steps-iterator ×
    (l.fn.loops.items ≡ l.yielded ++ into_iter_items l.steps-iterator) ×
    (walks_in (plain_contours whole l.contours.items) ≡ plain_walks whole l.yielded) ×
    ((rest : List Contour) → HaveRoles l.number rest → HaveRoles 0 (plain_contours whole l.contours.items ++ rest)) ×
    (l.number ≤ length l.yielded)
