-- The place comes nearer to the end, by stretches of some length.
use Rattle.std.proofs.Common.{◌-◌, ◌<◌, length}
use Rattle.overlay_walk.proofs.onward.stretch_behind.Given as goal

abbrev pub invariant-loop-stretch : goal.invariant-loop-stretch
invariant-loop-stretch g l = (l.from < length l.steps) × (0 < l.stretch)

abbrev pub decreases-loop-stretch : goal.decreases-loop-stretch
decreases-loop-stretch g l = length l.steps - l.from
