-- The roads of the edges so far are listed.
use Rattle.std.proofs.Common.{◌≡◌, map, take}
use Rattle.callers.proofs.roads.roads_along.Given as goal

abbrev pub invariant-loop-edge : goal.invariant-loop-edge
invariant-loop-edge g l = l.roads.items ≡ map (λ e. e.edge_data.number) (take l.edge-index l.way)
