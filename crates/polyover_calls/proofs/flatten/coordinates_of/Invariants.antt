use Rattle.std.proofs.Common.{◌≡◌, ◌≤◌, ◌*◌, ◌++◌, drop, length, vec_len, vec_capacity}
use Rattle.polyover_calls.specs.Arrays.{coordinates_of}
use Rattle.polyover_calls.proofs.flatten.coordinates_of.Given as goal

-- with the coordinates so far, those that are left are all coordinates, and there is room for them
abbrev pub invariant-loop-point : goal.invariant-loop-point
invariant-loop-point g l =
    (l.coordinates.items ++ coordinates_of (drop l.point-index l.points) ≡ coordinates_of l.points)
    × (vec_len l.coordinates ≡ 2 * l.point-index) × (2 * length l.points ≤ vec_capacity l.coordinates)
