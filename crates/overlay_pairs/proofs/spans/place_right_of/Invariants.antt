-- The place comes nearer to the end, by steps of some length.
use Rattle.std.proofs.Common.{◌-◌, ◌<◌, ◌≤◌, length}
use Rattle.overlay_pairs.proofs.spans.place_right_of.Given as goal

abbrev pub invariant-loop-at : goal.invariant-loop-at
invariant-loop-at g l = (l.from ≤ l.at) × (0 < l.step)

abbrev pub decreases-loop-at : goal.decreases-loop-at
decreases-loop-at g l = length l.edges - l.at
