-- From each step its next steps lead back to it.
use Rattle.overlay_plane.proofs.OrbitWalks.{orbits_exist}
use Rattle.overlay_plane.proofs.orbit.orbits_exist.Goals as goal

pub returns : goal.returns
returns c = orbits_exist
