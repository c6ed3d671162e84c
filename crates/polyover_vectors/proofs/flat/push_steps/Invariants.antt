-- The steps so far stand behind those that were there.
use Rattle.std.proofs.Common.{◌≡◌, take}
use Rattle.overlay_vector.specs.DataVectors.{plain_data_vectors}
use Rattle.polyover_vectors.specs.Flattened.{AreStepsAdded}
use Rattle.polyover_vectors.proofs.flat.push_steps.Given as goal

abbrev pub invariant-loop-step : goal.invariant-loop-step
invariant-loop-step g l =
    let old = l.initial.flat in
    AreStepsAdded g.I.IntNumber.whole (plain_data_vectors g.I.IntNumber.whole (take l.step-index l.steps.items))
    old.coordinates.items old.fills.items l.flat.coordinates.items l.flat.fills.items
    × ((l.flat.contour_ends ≡ old.contour_ends) × (l.flat.shape_ends ≡ old.shape_ends))
