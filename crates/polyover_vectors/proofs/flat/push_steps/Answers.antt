-- One more step stands behind them.
use Rattle.std.proofs.Common.{◌≡◌, ◌+◌, ◌∷◌, ◌++◌, [], refl, sym, ap, ◌∙◌, subst, take}
use Rattle.std.proofs.lemmas.List.{map-append, take_more}
use Rattle.overlay_vector.specs.DataVectors.{plain_data_vector, plain_data_vectors}
use Rattle.polyover_vectors.specs.Flattened.{AreStepsAdded}
use Rattle.polyover_vectors.proofs.Adding.{more_steps, no_steps}
use Rattle.polyover_vectors.proofs.flat.push_steps.Goals as goal

pub loop-step-init : goal.loop-step-init
loop-step-init g c =
    let old = c.args.flat.now in (
      no_steps g.I.IntNumber.whole old.coordinates.items old.fills.items,
      (refl, refl),
    )

pub loop-step-preserved : goal.loop-step-preserved
loop-step-preserved g c =
    let whole = g.I.IntNumber.whole in
    let steps = c.args.steps.now.items in
    let i = c.loop-step.step-index in
    let e = c.step-item.result in
    let old = c.args.flat.now in
    let mid = c.loop-step.flat in
    let flat = c.push_step.new.flat in
    let so_far = plain_data_vectors whole (take i steps) in
    let read = c.deref-step-items.result.now in
    let next_read : take (i + 1) read ≡ take i read ++ e ∷ [] =
    take_more read i e c.loop-step-test.true ∙ ap (λ x. take i read ++ x ∷ []) (sym c.step-item.is) in
    let next : take (i + 1) steps ≡ take i steps ++ e ∷ [] =
    subst (λ xs. take (i + 1) xs ≡ take i xs ++ e ∷ []) c.deref-step-items.ensures.value next_read in
    let all : plain_data_vectors whole (take (i + 1) steps) ≡ so_far ++ plain_data_vector whole e ∷ [] =
    ap (plain_data_vectors whole) next ∙ map-append (plain_data_vector whole) (take i steps) (e ∷ []) in (
      subst (λ k. AreStepsAdded whole k old.coordinates.items old.fills.items flat.coordinates.items flat.fills.items)
          (sym all)
          (more_steps whole so_far (plain_data_vector whole e ∷ []) old.coordinates.items mid.coordinates.items
          flat.coordinates.items old.fills.items mid.fills.items flat.fills.items c.loop-step.invariant.0
          c.in_ok-push_step.ensures.added),
      (
        c.in_ok-push_step.ensures.contours ∙ c.loop-step.invariant.1.0,
        c.in_ok-push_step.ensures.shapes ∙ c.loop-step.invariant.1.1,
      ),
    )
