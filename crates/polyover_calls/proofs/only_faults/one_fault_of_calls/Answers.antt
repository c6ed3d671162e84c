-- The laws are proved in proofs/EachFault.antt.
use Rattle.polyover_calls.proofs.EachFault.{calls_tell_one_fault, results_tell_one_fault}
use Rattle.polyover_calls.proofs.only_faults.one_fault_of_calls.Goals as goal

pub returns-clause-calls : goal.returns-clause-calls
returns-clause-calls g c = calls_tell_one_fault _ _ _ _

pub returns-clause-results : goal.returns-clause-results
returns-clause-results g c = results_tell_one_fault _ _ _ _
