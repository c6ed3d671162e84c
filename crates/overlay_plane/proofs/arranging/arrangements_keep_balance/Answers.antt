-- The law is proved in proofs/AfterRounds.antt.
use Rattle.overlay_plane.proofs.AfterRounds.{arrangements_keep_balance}
use Rattle.overlay_plane.proofs.arranging.arrangements_keep_balance.Goals as goal

pub returns : goal.returns
returns c = arrangements_keep_balance
