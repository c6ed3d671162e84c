-- There is a note for each step.
use Rattle.std.proofs.Common.{◌≡◌, length}
use Rattle.overlay_walk.proofs.onward.note_all.Given as goal

abbrev pub invariant-loop-place : goal.invariant-loop-place
invariant-loop-place g l = length l.onward ≡ length l.steps
