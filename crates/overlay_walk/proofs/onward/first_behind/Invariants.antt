-- The place comes nearer to the end.
use Rattle.std.proofs.Common.{◌-◌, length}
use Rattle.overlay_walk.proofs.onward.first_behind.Given as goal

abbrev pub decreases-loop-first : goal.decreases-loop-first
decreases-loop-first g l = length l.steps - l.first
