-- Those of the edges so far are listed.
use Rattle.std.proofs.Common.{◌≡◌, take}
use Rattle.std.specs.List.{flat_map}
use Rattle.overlay_vector.specs.DataVectors.{plain_data_vectors}
use Rattle.overlay_vector.specs.ListedVectors.{vectors_by_bits}
use Rattle.overlay_vector.proofs.selected_vectors.listed.Given as goal

abbrev pub invariant-loop-edge : goal.invariant-loop-edge
invariant-loop-edge g l = plain_data_vectors g.I.IntNumber.whole l.vectors.items
    ≡ flat_map (vectors_by_bits g.I.IntNumber.whole l.rule) (take l.edge-index l.edges)
