use Rattle.std.proofs.Common.{◌≡◌, ◌≤◌, ◌++◌, drop, length, vec_len, vec_capacity}
use Rattle.polyover_calls.specs.Arrays.{ends_of}
use Rattle.polyover_calls.proofs.flatten.ends_of.Given as goal

-- with the ends so far, those that are left are all ends, and there is room for them
abbrev pub invariant-loop-range : goal.invariant-loop-range
invariant-loop-range g l = (l.ends.items ++ ends_of (drop l.range-index l.ranges) ≡ ends_of l.ranges)
    × (vec_len l.ends ≡ l.range-index) × (length l.ranges ≤ vec_capacity l.ends)
