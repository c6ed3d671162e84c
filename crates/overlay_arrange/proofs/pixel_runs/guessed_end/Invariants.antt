-- The place looked at stays in its range, and comes nearer to its end.
use Rattle.std.proofs.Common.{◌-◌, ◌≤◌}
use Rattle.overlay_arrange.proofs.pixel_runs.guessed_end.Given as goal

abbrev pub invariant-loop-at : goal.invariant-loop-at
invariant-loop-at g l = (l.strip.from ≤ l.at) × (l.at ≤ l.strip.to)

abbrev pub decreases-loop-at : goal.decreases-loop-at
decreases-loop-at g l = l.strip.to - l.at
