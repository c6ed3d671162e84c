use Rattle.std.proofs.Common.{◌≡◌, ◌++◌, drop}
use Rattle.polyover_calls.specs.Arrays.{ranges_from}
use Rattle.polyover_calls.proofs.read.ranges_of.Given as goal

-- with the ranges so far, those that are left are all ranges
abbrev pub invariant-loop-end : goal.invariant-loop-end
invariant-loop-end g l = l.ranges.items ++ ranges_from l.from (drop l.end-index l.ends) ≡ ranges_from 0 l.ends
