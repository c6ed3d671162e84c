-- There are some neighbours, and no more than are allowed.
use Rattle.std.proofs.Common.{◌-◌, ◌<◌, ◌≤◌}
use Rattle.overlay_pairs.proofs.strips.strip_width.Given as goal

abbrev pub invariant-loop-width : goal.invariant-loop-width
invariant-loop-width l = (0 < l.width) × (l.width ≤ 131072)

abbrev pub decreases-loop-width : goal.decreases-loop-width
decreases-loop-width l = 65536 - l.width
