-- The edges so far stand in the arrays.
use Rattle.std.proofs.Common.{map, take}
use Rattle.overlay_order.specs.Vectors.{plain_vector}
use Rattle.polyover_calls.specs.Listed.{AreListed}
use Rattle.polyover_calls.proofs.edges.listed.Given as goal

abbrev pub invariant-loop-edge : goal.invariant-loop-edge
invariant-loop-edge g l =
    AreListed g.I.IntNumber.whole (map (plain_vector g.I.IntNumber.whole) (take l.edge-index l.edges))
    (record { coordinates = l.coordinates.items; fills = l.fills.items })
