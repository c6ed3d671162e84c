-- The law is proved in proofs.KeepingBalance.antt.
use Rattle.overlay_plane.proofs.KeepingBalance.{joining_keeps_balance}
use Rattle.overlay_plane.proofs.balance.joining_keeps_balance.Goals as goal

pub returns : goal.returns
returns c = joining_keeps_balance
