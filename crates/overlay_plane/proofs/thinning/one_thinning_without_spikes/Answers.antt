-- The law is proved in proofs/ThinnedOnce.antt.
use Rattle.overlay_plane.proofs.ThinnedOnce.{one_thinning_without_spikes}
use Rattle.overlay_plane.proofs.thinning.one_thinning_without_spikes.Goals as goal

pub returns : goal.returns
returns c = one_thinning_without_spikes
