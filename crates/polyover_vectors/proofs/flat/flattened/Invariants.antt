-- The shapes so far stand in the arrays.
use Rattle.std.proofs.Common.{take}
use Rattle.overlay_vector.specs.VectorShapes.{plain_vector_shapes}
use Rattle.polyover_vectors.specs.Flattened.{AreVectorsIn, vector_arrays}
use Rattle.polyover_vectors.proofs.flat.flattened.Given as goal

abbrev pub invariant-loop-shape : goal.invariant-loop-shape
invariant-loop-shape g l = AreVectorsIn g.I.IntNumber.whole
    (plain_vector_shapes g.I.IntNumber.whole (take l.shape-index l.shapes))
    (vector_arrays l.flat.coordinates.items l.flat.contour_ends.items l.flat.shape_ends.items l.flat.fills.items)
