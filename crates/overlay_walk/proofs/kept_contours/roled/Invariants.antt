-- With the walks that are left, the contours so far are those of all walks.
use Rattle.std.proofs.Common.{◌≡◌, ◌≤◌, ◌++◌, map, length}
use Rattle.std.specs.Vec.Iter.{into_iter_items}
use Rattle.overlay_plane.specs.RoledContours.{contours_from}
use Rattle.overlay_walk.specs.GroupedContours.{plain_contours}
use Rattle.overlay_walk.specs.Steps.{filled_hand}
use Rattle.overlay_walk.specs.Walks.{plain_walks}
use Rattle.overlay_walk.proofs.kept_contours.roled.Given as goal

abbrev pub invariant-loop-steps : goal.invariant-loop-steps
invariant-loop-steps g l =
    let whole = g.I.IntNumber.whole in
    let filled = filled_hand l.direction in
    (goal.iterator-loop-steps g).can_next l.steps-iterator ×
    (goal.iterator-loop-steps g).is_finite l.steps-iterator ×
    (l.fn.walks.items ≡ l.yielded ++ into_iter_items l.steps-iterator) ×
    (plain_contours whole l.contours.items ++ contours_from filled l.number
    (plain_walks whole (into_iter_items l.steps-iterator))
    ≡ contours_from filled 0 (plain_walks whole l.fn.walks.items)) ×
    (l.number ≤ length l.yielded) ×
    (map (λ k. k.steps) l.contours.items ≡ l.yielded)
