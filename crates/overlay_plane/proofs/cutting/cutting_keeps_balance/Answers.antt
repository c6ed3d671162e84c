-- The law is proved in proofs.KeepingBalance.antt.
use Rattle.overlay_plane.proofs.KeepingBalance.{cutting_keeps_balance}
use Rattle.overlay_plane.proofs.cutting.cutting_keeps_balance.Goals as goal

pub returns : goal.returns
returns c = cutting_keeps_balance
