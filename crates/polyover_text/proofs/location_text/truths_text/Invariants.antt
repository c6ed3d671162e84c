use Rattle.std.proofs.Common.{◌≡◌, take, string_bytes}
use Rattle.std.specs.List.{flat_map}
use Rattle.polyover_text.specs.Printed.{truth_line}
use Rattle.polyover_text.proofs.location_text.truths_text.Given as goal

-- the text so far is that of the truths so far
abbrev pub invariant-loop-truth : goal.invariant-loop-truth
invariant-loop-truth g l = string_bytes l.text ≡ flat_map truth_line (take l.truth-index l.truths)
