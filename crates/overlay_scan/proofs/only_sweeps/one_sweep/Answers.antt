-- The law is proved in proofs/OneSweep.antt.
use Rattle.overlay_scan.proofs.OneSweep.{one_sweep}
use Rattle.overlay_scan.proofs.only_sweeps.one_sweep.Goals as goal

pub returns : goal.returns
returns g c = one_sweep _
