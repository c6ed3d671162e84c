-- The law is proved in proofs/ManyCalls.antt.
use Rattle.overlay_scan.proofs.ManyCalls.{runs_are_quick}
use Rattle.overlay_scan.proofs.tree.laws.runs_are_quick.Goals as goal

pub returns : goal.returns
returns g c = runs_are_quick _ _
