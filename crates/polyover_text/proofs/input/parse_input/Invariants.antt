use Rattle.polyover_text.specs.Grammar.{input_lines}
use Rattle.polyover_text.specs.Lines.{lines_left}
use Rattle.polyover_text.proofs.SoFar.{HasReadSoFar}
use Rattle.polyover_text.proofs.input.parse_input.Given as goal

-- the lines so far are read
abbrev pub invariant-loop-line : goal.invariant-loop-line
invariant-loop-line g l = record {
  can : (goal.iterator-loop-line g).can_next l.line-iterator;
  finite : (goal.iterator-loop-line g).is_finite l.line-iterator;
  read : HasReadSoFar (input_lines l.text) (lines_left l.line-iterator) l.number l.reading;
}
