-- The values so far are in their forms.
use Rattle.std.proofs.Common.{◌≡◌, map, take}
use Rattle.polyover_calls.proofs.prepare.formed.Given as goal

abbrev pub invariant-loop-value : goal.invariant-loop-value
invariant-loop-value g l = map g.F.FormOf.meant l.forms.items ≡ take l.value-index l.values
