-- The law is proved in proofs/StraightOn.antt.
use Rattle.overlay_plane.proofs.StraightOn.{rotating_keeps_windings}
use Rattle.overlay_plane.proofs.thinning.rotating_keeps_windings.Goals as goal

pub returns : goal.returns
returns c = rotating_keeps_windings
