-- The place comes nearer to the end, by steps of some length.
use Rattle.std.proofs.Common.{◌-◌, ◌<◌, ◌≤◌}
use Rattle.overlay_arrange.proofs.pixel_runs.place_over.Given as goal

abbrev pub invariant-loop-at : goal.invariant-loop-at
invariant-loop-at g l = (l.strip.from ≤ l.at) × (0 < l.step)

abbrev pub decreases-loop-at : goal.decreases-loop-at
decreases-loop-at g l = l.strip.to - l.at
