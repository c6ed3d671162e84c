-- The places so far are taken.
use Rattle.std.proofs.Common.{◌-◌, ◌≤◌, length}
use Rattle.overlay_walk.specs.Fans.{AreTaken}
use Rattle.overlay_walk.proofs.fans.first_open_from.Given as goal

abbrev pub invariant-loop-at : goal.invariant-loop-at
invariant-loop-at l = (l.fn.low ≤ l.at) × AreTaken l.taken l.fanned l.fn.low l.at

abbrev pub decreases-loop-at : goal.decreases-loop-at
decreases-loop-at l = length l.fanned - l.at
