-- The end lies within the chain.
use Rattle.std.proofs.Common.{◌-◌, ◌≤◌, length}
use Rattle.overlay_located.proofs.chain.end_of_level.Given as goal

abbrev pub invariant-loop-end : goal.invariant-loop-end
invariant-loop-end g l = (l.start ≤ l.end) × (l.end ≤ length l.chain)

abbrev pub decreases-loop-end : goal.decreases-loop-end
decreases-loop-end g l = length l.chain - l.end
