-- With the numbers so far, the coordinates that are left are all coordinates, and there is room for them.
use Rattle.std.proofs.Common.{◌≡◌, ◌≤◌, ◌++◌, drop, length, vec_len, vec_capacity}
use Rattle.polyover_calls.proofs.narrowed.at_64_bits.Given as goal

abbrev pub invariant-loop-coordinate : goal.invariant-loop-coordinate
invariant-loop-coordinate l = (l.widened.items ++ drop l.coordinate-index l.coordinates ≡ l.coordinates)
    × (vec_len l.widened ≡ l.coordinate-index) × (length l.coordinates ≤ vec_capacity l.widened)
