-- The place is one of the list, or behind all.
use Rattle.std.proofs.Common.{◌-◌, ◌≤◌, length}
use Rattle.overlay_scan.proofs.search.above_live.Given as goal

abbrev pub invariant-loop-at : goal.invariant-loop-at
invariant-loop-at g l = l.at ≤ length l.entries

abbrev pub decreases-loop-at : goal.decreases-loop-at
decreases-loop-at g l = l.at - l.least
