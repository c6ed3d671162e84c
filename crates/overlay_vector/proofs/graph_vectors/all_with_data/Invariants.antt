-- The edges so far stand with their data alone.
use Rattle.std.proofs.Common.{◌≡◌, map, take}
use Rattle.overlay_vector.specs.DataVectors.{plain_data_vectors}
use Rattle.overlay_vector.specs.ListedVectors.{uncounted}
use Rattle.overlay_vector.proofs.graph_vectors.all_with_data.Given as goal

abbrev pub invariant-loop-edge : goal.invariant-loop-edge
invariant-loop-edge g l = plain_data_vectors g.I.IntNumber.whole l.vectors.items
    ≡ map (uncounted g.I.IntNumber.whole) (take l.edge-index l.edges)
