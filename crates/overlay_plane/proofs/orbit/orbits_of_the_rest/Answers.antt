-- An orbit of the steps left by closed parts is an orbit of the whole set.
use Rattle.overlay_plane.proofs.OrbitsApart.{orbits_of_the_rest}
use Rattle.overlay_plane.proofs.orbit.orbits_of_the_rest.Goals as goal

pub returns : goal.returns
returns c = orbits_of_the_rest
