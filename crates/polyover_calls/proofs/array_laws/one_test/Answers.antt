-- The laws are proved in proofs/OneTest.antt.
use Rattle.polyover_calls.proofs.OneTest.{one_test, one_test_of_points}
use Rattle.polyover_calls.proofs.array_laws.one_test.Goals as goal

pub returns-clause-contours : goal.returns-clause-contours
returns-clause-contours g c = one_test _ _

pub returns-clause-points : goal.returns-clause-points
returns-clause-points g c = one_test_of_points _ _
