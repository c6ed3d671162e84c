-- The law is proved in proofs/StraightOn.antt.
use Rattle.overlay_plane.proofs.StraightOn.{thinning_keeps_windings}
use Rattle.overlay_plane.proofs.thinning.thinning_keeps_windings.Goals as goal

pub returns : goal.returns
returns c = thinning_keeps_windings
