-- No step stands twice in an orbit.
use Rattle.overlay_plane.proofs.BalancedSteps.{orbits_have_each_once}
use Rattle.overlay_plane.proofs.beside_orbits.orbits_have_each_once.Goals as goal

pub returns : goal.returns
returns c = orbits_have_each_once
