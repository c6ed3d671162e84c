-- A walk along an orbit closes to it.
use Rattle.overlay_plane.proofs.OrbitsSoFar.{orbits_grow}
use Rattle.overlay_plane.proofs.orbit.orbits_grow.Goals as goal

pub returns : goal.returns
returns c = orbits_grow
