-- The two parts of the groups so far.
use Rattle.std.proofs.Common.{◌≡◌, ◌++◌, not, filter}
use Rattle.std.specs.List.{flat_map}
use Rattle.std.specs.Vec.Iter.{into_iter_items}
use Rattle.overlay_plane.specs.Binding.{is_hole}
use Rattle.overlay_walk.specs.Steps.{filled_hand, plain_steps}
use Rattle.overlay_walk.proofs.groups.split_groups.Given as goal

abbrev pub invariant-loop-group : goal.invariant-loop-group
invariant-loop-group g l =
    (goal.iterator-loop-group g).can_next l.group-iterator ×
    (goal.iterator-loop-group g).is_finite l.group-iterator ×
    (l.fn.groups.items ≡ l.yielded ++ into_iter_items l.group-iterator) ×
    (l.outline_groups.items ≡ filter
    (λ w. not (is_hole (filled_hand l.direction) (plain_steps g.I.IntNumber.whole w.items))) l.yielded) ×
    (l.hole_steps.items ≡ flat_map (λ w. w.items)
    (filter (λ w. is_hole (filled_hand l.direction) (plain_steps g.I.IntNumber.whole w.items)) l.yielded))
