-- The law is proved in proofs/TurningCalls.antt.
use Rattle.overlay_scan.proofs.TurningCalls.{either_runs_are_quick}
use Rattle.overlay_scan.proofs.tree.laws.either_runs_are_quick.Goals as goal

pub returns : goal.returns
returns g c = either_runs_are_quick _ _
