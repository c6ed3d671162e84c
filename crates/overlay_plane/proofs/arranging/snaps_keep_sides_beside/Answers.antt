-- The law is proved in proofs/FarSides.antt.
use Rattle.overlay_plane.proofs.FarSides.{snaps_keep_sides_beside}
use Rattle.overlay_plane.proofs.arranging.snaps_keep_sides_beside.Goals as goal

pub returns : goal.returns
returns c = snaps_keep_sides_beside
