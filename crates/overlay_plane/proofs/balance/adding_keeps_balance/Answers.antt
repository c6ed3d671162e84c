-- The law is proved in proofs.KeepingBalance.antt.
use Rattle.overlay_plane.proofs.KeepingBalance.{adding_keeps_balance}
use Rattle.overlay_plane.proofs.balance.adding_keeps_balance.Goals as goal

pub returns : goal.returns
returns c = adding_keeps_balance
