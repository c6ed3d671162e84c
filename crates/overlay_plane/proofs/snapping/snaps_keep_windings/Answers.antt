-- The law is proved in proofs/SnapWindings.antt.
use Rattle.overlay_plane.proofs.SnapWindings.{snaps_keep_windings}
use Rattle.overlay_plane.proofs.snapping.snaps_keep_windings.Goals as goal

pub returns : goal.returns
returns c = snaps_keep_windings
