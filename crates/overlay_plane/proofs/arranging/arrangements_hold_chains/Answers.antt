-- The law is proved in proofs/HeldChains.antt.
use Rattle.overlay_plane.proofs.HeldChains.{arrangements_hold_chains}
use Rattle.overlay_plane.proofs.arranging.arrangements_hold_chains.Goals as goal

pub returns : goal.returns
returns c = arrangements_hold_chains
