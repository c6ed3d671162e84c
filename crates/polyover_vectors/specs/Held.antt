-- Shapes with the filled sides of each step in memory that the call hands out.
use Rattle.polyover_calls.specs.Held.{HeldArrays}
use Rattle.polyover_vectors.specs.Flattened.{vector_arrays}
use Rattle.polyover_vectors.specs.declared.held.Vectors.{Vectors}

-- the items of each array
abbrev pub arrays_of : {I : Type 0} → Vectors I → HeldArrays I
arrays_of v = vector_arrays v.coordinates.now v.contour_ends.now v.shape_ends.now v.fills.now
