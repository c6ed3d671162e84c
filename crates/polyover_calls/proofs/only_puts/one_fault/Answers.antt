-- The laws are proved in proofs/OneFault.antt.
use Rattle.polyover_calls.proofs.OneFault.{one_fault_of_overlays, faulty_arguments_have_no_answer}
use Rattle.polyover_calls.proofs.only_puts.one_fault.Goals as goal

pub returns-clause-one : goal.returns-clause-one
returns-clause-one g c = one_fault_of_overlays _ _

pub returns-clause-no_answer : goal.returns-clause-no_answer
returns-clause-no_answer g c = faulty_arguments_have_no_answer _ _
