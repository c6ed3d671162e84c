use Rattle.std.proofs.Common.{◌≡◌, ◌++◌, drop}
use Rattle.polyover_calls.specs.Arrays.{points_behind, points_of}
use Rattle.polyover_calls.proofs.read.points_of.Given as goal

-- with the points so far, those that are left are all points
abbrev pub invariant-loop-coordinate : goal.invariant-loop-coordinate
invariant-loop-coordinate g l =
    l.points.items ++ points_behind l.before (drop l.coordinate-index l.coordinates) ≡ points_of l.coordinates
