-- The contours of the shape stand behind those before it, and then its end.
use Rattle.std.proofs.Common.{◌≡◌, ◌∷◌, ◌++◌, [], length, refl, rules, ap, ◌∙◌}
use Rattle.overlay_vector.specs.VectorShapes.{plain_vector_shape}
use Rattle.polyover_vectors.specs.Flattened.{all_of, vector_arrays}
use Rattle.polyover_vectors.proofs.Adding.{one_more_shape}
use Rattle.polyover_vectors.proofs.flat.push_shape.Goals as goal

pub returns : goal.returns
returns g c =
    let whole = g.I.IntNumber.whole in
    let old = c.args.flat.now in
    let mid = c.push_contours.new.flat in
    let shape = plain_vector_shape whole c.args.shape.now.items in
    let pushed : c.push.new.self.items ≡ mid.shape_ends.items ++ length mid.contour_ends.items ∷ [] =
    search rules in
    let ends : c.push.new.self.items ≡ old.shape_ends.items ++ length mid.contour_ends.items ∷ [] =
    pushed ∙ ap (λ v. v.items ++ length mid.contour_ends.items ∷ []) c.in_ok-push_contours.ensures.shapes in
    λ ss told.
    let contours = c.in_ok-push_contours.ensures.added (all_of ss) told.contours in
    one_more_shape whole ss shape
    (vector_arrays old.coordinates.items old.contour_ends.items old.shape_ends.items old.fills.items)
    (vector_arrays mid.coordinates.items mid.contour_ends.items c.push.new.self.items mid.fills.items) told
    (record { coordinates = contours.coordinates; contour_ends = contours.contour_ends; fills = contours.fills })
    ends refl
