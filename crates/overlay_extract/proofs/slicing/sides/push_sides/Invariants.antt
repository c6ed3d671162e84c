-- The steps so far and those of the edges to come make the whole.
use Rattle.std.proofs.Common.{◌≡◌, ◌++◌, map, drop}
use Rattle.std.specs.List.{flat_map}
use Rattle.overlay_order.specs.Vectors.{plain_vector}
use Rattle.overlay_extract.specs.SidesByBits.{sides_by_bits}
use Rattle.overlay_walk.specs.Steps.{plain_steps}
use Rattle.overlay_extract.proofs.slicing.sides.push_sides.Given as goal

abbrev pub invariant-loop-number : goal.invariant-loop-number
invariant-loop-number g l =
    let whole = g.I.IntNumber.whole in
    plain_steps whole l.steps.items ++ flat_map sides_by_bits (map (plain_vector whole) (drop l.number l.edges))
    ≡ plain_steps whole l.initial.steps.items ++ flat_map sides_by_bits (map (plain_vector whole) l.edges)
