-- One more shape stands in the arrays.
use Rattle.std.proofs.Common.{◌≡◌, ◌+◌, ◌∷◌, ◌++◌, [], rules, sym, ap, ◌∙◌, subst, take}
use Rattle.std.proofs.lemmas.List.{map-append, take_more}
use Rattle.overlay_vector.specs.VectorShapes.{plain_vector_shape, plain_vector_shapes}
use Rattle.polyover_vectors.specs.Flattened.{AreVectorsIn, vector_arrays}
use Rattle.polyover_vectors.proofs.Adding.{none_in}
use Rattle.polyover_vectors.proofs.flat.flattened.Goals as goal

pub loop-shape-init : goal.loop-shape-init
loop-shape-init g c = none_in g.I.IntNumber.whole _ _ _ _ (search rules) (search rules) (search rules) (search rules)

pub loop-shape-preserved : goal.loop-shape-preserved
loop-shape-preserved g c =
    let whole = g.I.IntNumber.whole in
    let shapes = c.args.shapes.now in
    let i = c.loop-shape.shape-index in
    let s = c.shape-item.result in
    let flat = c.push_shape.new.flat in
    let next : take (i + 1) shapes ≡ take i shapes ++ s ∷ [] =
    take_more shapes i s c.loop-shape-test.true ∙ ap (λ x. take i shapes ++ x ∷ []) (sym c.shape-item.is) in
    subst (λ ss. AreVectorsIn whole ss (vector_arrays flat.coordinates.items flat.contour_ends.items
    flat.shape_ends.items flat.fills.items))
    (sym (ap (plain_vector_shapes whole) next ∙ map-append (λ v. plain_vector_shape whole v.items) (take i shapes)
    (s ∷ [])))
    (c.in_ok-push_shape.ensures (plain_vector_shapes whole (take i shapes)) c.loop-shape.invariant)
