use Rattle.std.proofs.Common.{length}
use Rattle.polyover_text.proofs.Numbers.{TellsDigits}
use Rattle.polyover_text.proofs.number.is_numeral.Given as goal

abbrev pub invariant-loop-first : goal.invariant-loop-first
invariant-loop-first l = TellsDigits l.fn.bytes l.left

abbrev pub decreases-loop-first : goal.decreases-loop-first
decreases-loop-first l = length l.left
