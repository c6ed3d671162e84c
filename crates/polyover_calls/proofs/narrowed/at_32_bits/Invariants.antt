-- The numbers so far are in range at 32 bits; with them, the coordinates that are left are all coordinates. There is
-- room for those.
use Rattle.std.proofs.Common.{◌≡◌, ◌≤◌, ◌++◌, All, drop, length, vec_len, vec_capacity}
use Rattle.overlay_geom.specs.Numbers.{Within}
use Rattle.polyover_calls.specs.Narrowed.{greatest_of_32_bits}
use Rattle.polyover_calls.proofs.narrowed.at_32_bits.Given as goal

abbrev pub invariant-loop-coordinate : goal.invariant-loop-coordinate
invariant-loop-coordinate l = (l.narrowed.items ++ drop l.coordinate-index l.coordinates ≡ l.coordinates)
    × All (Within greatest_of_32_bits) l.narrowed.items
    × (vec_len l.narrowed ≡ l.coordinate-index) × (length l.coordinates ≤ vec_capacity l.narrowed)
