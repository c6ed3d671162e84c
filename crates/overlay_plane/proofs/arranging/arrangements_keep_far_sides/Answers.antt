-- The law is proved in proofs/FarSides.antt.
use Rattle.overlay_plane.proofs.FarSides.{arrangements_keep_far_sides}
use Rattle.overlay_plane.proofs.arranging.arrangements_keep_far_sides.Goals as goal

pub returns : goal.returns
returns c = arrangements_keep_far_sides
