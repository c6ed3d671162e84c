-- The steps of the contour stand behind those before it, and then its end.
use Rattle.std.proofs.Common.{◌≡◌, ◌∷◌, ◌++◌, [], length, rules, ap, ◌∙◌}
use Rattle.overlay_vector.specs.DataVectors.{plain_data_vectors}
use Rattle.polyover_vectors.specs.Flattened.{vector_arrays}
use Rattle.polyover_vectors.proofs.Adding.{one_more_contour}
use Rattle.polyover_vectors.proofs.flat.push_contour.Goals as goal

pub returns : goal.returns
returns g c =
    let whole = g.I.IntNumber.whole in
    let old = c.args.flat.now in
    let mid = c.push_steps.new.flat in
    let pushed : c.push.new.self.items ≡ mid.contour_ends.items ++ length mid.fills.items ∷ [] =
    search rules in
    let ends : c.push.new.self.items ≡ old.contour_ends.items ++ length mid.fills.items ∷ [] =
    pushed ∙ ap (λ v. v.items ++ length mid.fills.items ∷ []) c.in_ok-push_steps.ensures.contours in
    record {
      added = λ cs told. one_more_contour whole cs (plain_data_vectors whole c.args.contour.now.items)
          (vector_arrays old.coordinates.items old.contour_ends.items old.shape_ends.items old.fills.items)
          (vector_arrays mid.coordinates.items c.push.new.self.items mid.shape_ends.items mid.fills.items) told
          c.in_ok-push_steps.ensures.added ends;
      shapes = c.in_ok-push_steps.ensures.shapes;
    }
