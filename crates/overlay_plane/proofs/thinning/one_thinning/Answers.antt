-- The law is proved in proofs/ThinnedRound.antt.
use Rattle.overlay_plane.proofs.ThinnedRound.{one_thinning}
use Rattle.overlay_plane.proofs.thinning.one_thinning.Goals as goal

pub returns : goal.returns
returns c = one_thinning
