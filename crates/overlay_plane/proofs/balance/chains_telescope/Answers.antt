-- The law is proved in proofs.KeepingBalance.antt.
use Rattle.overlay_plane.proofs.KeepingBalance.{chains_telescope}
use Rattle.overlay_plane.proofs.balance.chains_telescope.Goals as goal

pub returns : goal.returns
returns c = chains_telescope
