-- The laws are proved in proofs/ComeBack.antt.
use Rattle.polyover_calls.proofs.ComeBack.{points_come_back, coordinates_come_back}
use Rattle.polyover_calls.proofs.array_laws.points_come_back.Goals as goal

pub returns-clause-points : goal.returns-clause-points
returns-clause-points g c = points_come_back _

pub returns-clause-coordinates : goal.returns-clause-coordinates
returns-clause-coordinates g c = coordinates_come_back _
