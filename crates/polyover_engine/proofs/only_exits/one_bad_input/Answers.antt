-- The laws are proved in proofs/OneExit.antt.
use Rattle.polyover_engine.proofs.OneExit.{one_bad_input, bad_inputs_have_no_answer, bad_inputs_are_not_refused}
use Rattle.polyover_engine.proofs.only_exits.one_bad_input.Goals as goal

pub returns-clause-one : goal.returns-clause-one
returns-clause-one c = one_bad_input

pub returns-clause-no_answer : goal.returns-clause-no_answer
returns-clause-no_answer c = bad_inputs_have_no_answer

pub returns-clause-not_refused : goal.returns-clause-not_refused
returns-clause-not_refused c = bad_inputs_are_not_refused
