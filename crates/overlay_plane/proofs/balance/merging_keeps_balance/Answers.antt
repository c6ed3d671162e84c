-- The law is proved in proofs.KeepingBalance.antt.
use Rattle.overlay_plane.proofs.KeepingBalance.{merging_keeps_balance}
use Rattle.overlay_plane.proofs.balance.merging_keeps_balance.Goals as goal

pub returns : goal.returns
returns c = merging_keeps_balance
