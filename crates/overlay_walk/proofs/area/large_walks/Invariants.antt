-- The walks so far that reach the minimum area.
use Rattle.std.proofs.Common.{◌≡◌, ◌++◌, filter}
use Rattle.std.specs.Vec.Iter.{into_iter_items}
use Rattle.overlay_plane.specs.MinimumArea.{reaches}
use Rattle.overlay_walk.specs.Steps.{plain_steps}
use Rattle.overlay_walk.proofs.area.large_walks.Given as goal

abbrev pub invariant-loop-walk : goal.invariant-loop-walk
invariant-loop-walk g l =
    (goal.iterator-loop-walk g).can_next l.walk-iterator ×
    (goal.iterator-loop-walk g).is_finite l.walk-iterator ×
    (l.fn.walks.items ≡ l.yielded ++ into_iter_items l.walk-iterator) ×
    (l.large.items ≡ filter (λ w. reaches g.I.Wide.WideIntNumber.width
    (g.I.WideUInt.UIntNumber.natural l.min_output_area)
    (plain_steps g.I.IntNumber.whole w.items)) l.yielded)
