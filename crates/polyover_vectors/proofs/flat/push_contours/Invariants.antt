-- The contours so far stand behind those that were there.
use Rattle.std.proofs.Common.{◌≡◌, ◌++◌, take}
use Rattle.overlay_vector.specs.VectorShapes.{plain_vector_shape}
use Rattle.polyover_vectors.specs.Flattened.{AreContoursIn, vector_arrays}
use Rattle.polyover_vectors.proofs.flat.push_contours.Given as goal

abbrev pub invariant-loop-contour : goal.invariant-loop-contour
invariant-loop-contour g l =
    let whole = g.I.IntNumber.whole in
    let old = l.initial.flat in
    ((cs : _) → AreContoursIn whole cs
    (vector_arrays old.coordinates.items old.contour_ends.items old.shape_ends.items old.fills.items) →
    AreContoursIn whole (cs ++ plain_vector_shape whole (take l.contour-index l.contours.items))
    (vector_arrays l.flat.coordinates.items l.flat.contour_ends.items l.flat.shape_ends.items l.flat.fills.items))
    × (l.flat.shape_ends ≡ old.shape_ends)
