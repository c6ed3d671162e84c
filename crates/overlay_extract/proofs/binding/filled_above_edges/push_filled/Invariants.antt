-- The edges of the steps so far are added.
use Rattle.std.proofs.Common.{◌≡◌, ◌++◌, map, take}
use Rattle.overlay_walk.specs.Steps.{plain_step, filled_hand}
use Rattle.overlay_walk.specs.WalkEdges.{numbered_entries}
use Rattle.overlay_extract.specs.WalkEntries.{filled_entries}
use Rattle.overlay_extract.proofs.binding.filled_above_edges.push_filled.Given as goal

abbrev pub invariant-loop-step : goal.invariant-loop-step
invariant-loop-step g l =
    let whole = g.I.IntNumber.whole in
    numbered_entries whole l.edges.items
    ≡ numbered_entries whole l.initial.edges.items ++ filled_entries (filled_hand l.direction) l.index
    (map (plain_step whole) (take l.step-index l.walk))
