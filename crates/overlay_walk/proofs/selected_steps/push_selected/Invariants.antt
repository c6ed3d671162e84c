-- The steps so far and those of the edges to come make the whole. Each runs along its edge if the first steps do.
use Rattle.std.proofs.Common.{◌≡◌, ◌++◌, map, drop, All}
use Rattle.std.specs.List.{flat_map}
use Rattle.overlay_order.specs.Vectors.{plain_vector}
use Rattle.overlay_walk.specs.Steps.{filled_hand, plain_steps, RunsAlong}
use Rattle.overlay_walk.specs.Selection.{ends, steps_by_bits}
use Rattle.overlay_walk.proofs.selected_steps.push_selected.Given as goal

abbrev pub invariant-loop-number : goal.invariant-loop-number
invariant-loop-number g l =
    (plain_steps g.I.IntNumber.whole l.steps.items
    ++ flat_map (steps_by_bits l.rule (filled_hand l.direction))
    (map (plain_vector g.I.IntNumber.whole) (drop l.number l.edges))
    ≡ plain_steps g.I.IntNumber.whole l.initial.steps.items
    ++ flat_map (steps_by_bits l.rule (filled_hand l.direction)) (map (plain_vector g.I.IntNumber.whole) l.edges))
    × (All (RunsAlong g.I.IntNumber.whole (map (λ v. ends (plain_vector g.I.IntNumber.whole v)) l.edges))
    l.initial.steps.items
    → All (RunsAlong g.I.IntNumber.whole (map (λ v. ends (plain_vector g.I.IntNumber.whole v)) l.edges)) l.steps.items)
