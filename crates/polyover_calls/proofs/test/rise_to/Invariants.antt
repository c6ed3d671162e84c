use Rattle.std.proofs.Common.{◌≡◌, drop}
use Rattle.polyover_calls.specs.Arrays.{rise_from}
use Rattle.polyover_calls.proofs.test.rise_to.Given as goal

-- all ends rise to the count where those that are left rise to it from the last one
abbrev pub invariant-loop-end : goal.invariant-loop-end
invariant-loop-end l = rise_from l.from (drop l.end-index l.ends) l.count ≡ rise_from 0 l.ends l.count
