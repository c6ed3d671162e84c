-- The parts so far are those before, and the first of the new ones.
use Rattle.std.proofs.Common.{◌≡◌, ◌++◌, take}
use Rattle.overlay_parts.proofs.parting.push_parts.Given as goal

abbrev pub invariant-loop-i : goal.invariant-loop-i
invariant-loop-i g l = l.parts.items ≡ l.initial.parts.items ++ take l.i l.more.items
