-- The edges so far stand in the arrays.
use Rattle.std.proofs.Common.{take}
use Rattle.overlay_vector.specs.DataVectors.{plain_data_vectors}
use Rattle.overlay_traced.specs.Told.{AreTold, traced_arrays}
use Rattle.overlay_traced.proofs.told.told_edges.Given as goal

abbrev pub invariant-loop-edge : goal.invariant-loop-edge
invariant-loop-edge g l = AreTold g.I.IntNumber.whole
    (plain_data_vectors g.I.IntNumber.whole (take l.edge-index l.edges))
    (traced_arrays l.told.coordinates.items l.told.fills.items l.told.source_ends.items l.told.sources.items)
