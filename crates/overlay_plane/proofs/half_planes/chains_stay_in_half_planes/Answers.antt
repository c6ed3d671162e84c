-- The law is proved in proofs/HalfPlanes.antt.
use Rattle.overlay_plane.proofs.HalfPlanes.{chains_stay_in_half_planes}
use Rattle.overlay_plane.proofs.half_planes.chains_stay_in_half_planes.Goals as goal

pub returns : goal.returns
returns c = chains_stay_in_half_planes
