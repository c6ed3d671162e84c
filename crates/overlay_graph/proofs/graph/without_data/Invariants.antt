-- The edges so far stand without their data.
use Rattle.std.proofs.Common.{◌≡◌, map, take}
use Rattle.overlay_order.specs.Vectors.{plain_vector}
use Rattle.overlay_graph.proofs.graph.without_data.Given as goal

abbrev pub invariant-loop-edge : goal.invariant-loop-edge
invariant-loop-edge g l = map (plain_vector g.I.IntNumber.whole) l.vectors.items ≡ map
    (plain_vector g.I.IntNumber.whole) (take l.edge-index l.edges)
