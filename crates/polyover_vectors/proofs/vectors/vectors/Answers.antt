-- The builder that is asked gives the shapes that become arrays.
use Rattle.std.proofs.Common.{subst}
use Rattle.overlay_vector.specs.VectorShapes.{plain_vector_shapes}
use Rattle.polyover_calls.specs.Given.{contours_of}
use Rattle.polyover_vectors.specs.Flattened.{AreVectorsIn, vector_arrays}
use Rattle.polyover_vectors.proofs.Answered.{vectors_answered}
use Rattle.polyover_vectors.proofs.vectors.vectors.Goals as goal

pub returns : goal.returns
returns g c =
    let whole = g.I.IntNumber.whole in
    let flat = c.in_ok-flat.flat in
    let arrays = vector_arrays flat.coordinates.items flat.contour_ends.items flat.shape_ends.items flat.fills.items in
    vectors_answered whole g.I.IntNumber.limit c.args.asked.now.rule c.args.asked.now.fill c.args.asked.now.options
    (contours_of c.args.asked.now.subject.coordinates.now c.args.asked.now.subject.ends.now)
    (contours_of c.args.asked.now.clip.coordinates.now c.args.asked.now.clip.ends.now)
    c.in_ok-overlay.overlay.rule c.in_ok-overlay.overlay.fill _ c.in_ok-overlay.ensures _ _ g.I.Wide.WideIntNumber.width
    g.I.WideUInt.UIntNumber.natural (plain_vector_shapes whole c.in_ok-shapes.shapes.items) arrays
    c.in_ok-shapes.ensures.answers c.in_ok-shapes.ensures.result
    (subst (λ xs. AreVectorsIn whole (plain_vector_shapes whole xs) arrays) c.deref.ensures.value c.in_ok-flat.ensures)
