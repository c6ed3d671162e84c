-- Steps taken have a leftmost lowest end, and a top and a lowest edge there.
use Rattle.overlay_plane.proofs.LeastSteps.{leftmost_steps_exist}
use Rattle.overlay_plane.proofs.beside_orbits.leftmost_steps_exist.Goals as goal

pub returns : goal.returns
returns c = leftmost_steps_exist
