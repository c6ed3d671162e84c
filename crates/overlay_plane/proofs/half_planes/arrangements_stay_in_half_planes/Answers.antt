-- The law is proved in proofs/HalfPlanes.antt.
use Rattle.overlay_plane.proofs.HalfPlanes.{arrangements_stay_in_half_planes}
use Rattle.overlay_plane.proofs.half_planes.arrangements_stay_in_half_planes.Goals as goal

pub returns : goal.returns
returns c = arrangements_stay_in_half_planes
