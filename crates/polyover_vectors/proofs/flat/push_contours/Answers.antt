-- One more contour stands behind them.
use Rattle.std.proofs.Common.{◌≡◌, ◌+◌, ◌∷◌, ◌++◌, [], refl, sym, ap, ◌∙◌, subst, take, append_assoc, append-nil}
use Rattle.std.proofs.lemmas.List.{map-append, take_more}
use Rattle.overlay_vector.specs.DataVectors.{plain_data_vectors}
use Rattle.overlay_vector.specs.VectorShapes.{plain_vector_shape}
use Rattle.polyover_vectors.specs.Flattened.{AreContoursIn, vector_arrays}
use Rattle.polyover_vectors.proofs.flat.push_contours.Goals as goal

pub loop-contour-init : goal.loop-contour-init
loop-contour-init g c =
    let old = c.args.flat.now in (
      λ cs told. subst (λ k. AreContoursIn g.I.IntNumber.whole k (vector_arrays old.coordinates.items
          old.contour_ends.items old.shape_ends.items old.fills.items)) (sym (append-nil cs)) told,
      refl,
    )

pub loop-contour-preserved : goal.loop-contour-preserved
loop-contour-preserved g c =
    let whole = g.I.IntNumber.whole in
    let contours = c.args.contours.now.items in
    let i = c.loop-contour.contour-index in
    let e = c.contour-item.result in
    let flat = c.push_contour.new.flat in
    let so_far = plain_vector_shape whole (take i contours) in
    let read = c.deref-contour-items.result.now in
    let next_read : take (i + 1) read ≡ take i read ++ e ∷ [] =
    take_more read i e c.loop-contour-test.true ∙ ap (λ x. take i read ++ x ∷ []) (sym c.contour-item.is) in
    let next : take (i + 1) contours ≡ take i contours ++ e ∷ [] =
    subst (λ xs. take (i + 1) xs ≡ take i xs ++ e ∷ []) c.deref-contour-items.ensures.value next_read in
    let all : plain_vector_shape whole (take (i + 1) contours) ≡ so_far ++ plain_data_vectors whole e.items ∷ [] =
    ap (plain_vector_shape whole) next
    ∙ map-append (λ v. plain_data_vectors whole v.items) (take i contours) (e ∷ []) in (
      λ cs told. subst (λ k. AreContoursIn whole k (vector_arrays flat.coordinates.items flat.contour_ends.items
          flat.shape_ends.items flat.fills.items))
          (append_assoc cs so_far (plain_data_vectors whole e.items ∷ []) ∙ ap (λ k. cs ++ k) (sym all))
          (c.in_ok-push_contour.ensures.added (cs ++ so_far) (c.loop-contour.invariant.0 cs told)),
      c.in_ok-push_contour.ensures.shapes ∙ c.loop-contour.invariant.1,
    )
