-- Along an orbit by a hand the winding on the hand's side is constant.
use Rattle.overlay_plane.proofs.BesideNext.{one_winding_along_orbits}
use Rattle.overlay_plane.proofs.beside_orbits.one_winding_along_orbits.Goals as goal

pub returns : goal.returns
returns c = one_winding_along_orbits
