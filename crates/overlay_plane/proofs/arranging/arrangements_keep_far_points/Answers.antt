-- The law is proved in proofs/FarPoints.antt.
use Rattle.overlay_plane.proofs.FarPoints.{arrangements_keep_far_points}
use Rattle.overlay_plane.proofs.arranging.arrangements_keep_far_points.Goals as goal

pub returns : goal.returns
returns c = arrangements_keep_far_points
