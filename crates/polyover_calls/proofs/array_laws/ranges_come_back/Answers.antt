-- The laws are proved in proofs/ComeBack.antt.
use Rattle.polyover_calls.proofs.ComeBack.{ends_come_back, ranges_come_back}
use Rattle.polyover_calls.proofs.array_laws.ranges_come_back.Goals as goal

pub returns-clause-ends : goal.returns-clause-ends
returns-clause-ends c = ends_come_back

pub returns-clause-ranges : goal.returns-clause-ranges
returns-clause-ranges c = ranges_come_back
