use Rattle.std.proofs.Common.{ap, ◌∙◌}
use Rattle.std.specs.List.{flat_map}
use Rattle.std.proofs.lemmas.List.{take_all}
use Rattle.polyover_text.specs.Printed.{truth_line}
use Rattle.polyover_text.proofs.location_text.truths_text.Goals as goal

pub returns : goal.returns
returns g c = c.loop-truth.invariant
    ∙ ap (flat_map truth_line) (take_all c.loop-truth.truth-index c.args.truths.now c.loop-truth-test.false)
