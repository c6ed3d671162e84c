-- A place from `from` on, up to the end of the list.
use Rattle.std.proofs.Common.{◌-◌, ◌≤◌, length}
use Rattle.overlay_given.proofs.uncrossed.met_end.Given as goal

abbrev pub invariant-loop-end : goal.invariant-loop-end
invariant-loop-end g l = (l.from ≤ l.end) × (l.end ≤ length l.edges)

abbrev pub decreases-loop-end : goal.decreases-loop-end
decreases-loop-end g l = length l.edges - l.end
