-- The law is proved in proofs/StraightOn.antt.
use Rattle.overlay_plane.proofs.StraightOn.{dropping_keeps_windings}
use Rattle.overlay_plane.proofs.thinning.dropping_keeps_windings.Goals as goal

pub returns : goal.returns
returns c = dropping_keeps_windings
