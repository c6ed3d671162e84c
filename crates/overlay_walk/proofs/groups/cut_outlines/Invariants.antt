-- The contours of the groups so far, no more than these.
use Rattle.std.proofs.Common.{◌≡◌, ◌≤◌, ◌++◌, Bool, List, length}
use Rattle.std.specs.Vec.Iter.{into_iter_items}
use Rattle.overlay_geom.specs.Plane.{Step}
use Rattle.overlay_plane.specs.MinimumArea.{reaches}
use Rattle.overlay_walk.specs.GroupedContours.{plain_contours}
use Rattle.overlay_walk.specs.Steps.{plain_hand}
use Rattle.overlay_walk.specs.Walks.{plain_walks}
use Rattle.overlay_walk.proofs.GroupContours.{AreCutSoFar}
use Rattle.overlay_walk.proofs.groups.cut_outlines.Given as goal

abbrev pub invariant-loop-group : goal.invariant-loop-group
invariant-loop-group g l =
    let keeps : List Step → Bool = λ w. reaches g.I.Wide.WideIntNumber.width
    (g.I.WideUInt.UIntNumber.natural l.min_output_area) w in
    let whole = g.I.IntNumber.whole in
    (goal.iterator-loop-group g).can_next l.group-iterator ×
    (goal.iterator-loop-group g).is_finite l.group-iterator ×
    (l.fn.groups.items ≡ l.yielded ++ into_iter_items l.group-iterator) ×
    AreCutSoFar (plain_hand l.hand) keeps (plain_walks whole l.yielded) l.number
    (plain_contours whole l.contours.items) ×
    (l.number ≤ length l.yielded)
