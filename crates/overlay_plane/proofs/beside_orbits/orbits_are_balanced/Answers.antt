-- An orbit's steps have balanced counts.
use Rattle.overlay_plane.proofs.BalancedSteps.{orbits_are_balanced}
use Rattle.overlay_plane.proofs.beside_orbits.orbits_are_balanced.Goals as goal

pub returns : goal.returns
returns c = orbits_are_balanced
