-- The laws are proved in proofs/OneBadLine.antt.
use Rattle.polyover_text.proofs.OneBadLine.{one_bad_line, inputs_have_no_bad_line}
use Rattle.polyover_text.proofs.one_input.one_bad_line.Goals as goal

pub returns-clause-one : goal.returns-clause-one
returns-clause-one c = one_bad_line

pub returns-clause-none : goal.returns-clause-none
returns-clause-none c = inputs_have_no_bad_line
