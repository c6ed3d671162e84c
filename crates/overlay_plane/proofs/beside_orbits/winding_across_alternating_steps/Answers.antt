-- Across a step that is taken once the winding rises by 1, and across another step of the set it does not change.
use Rattle.overlay_plane.proofs.BesideAcross.{winding_across_alternating_steps}
use Rattle.overlay_plane.proofs.beside_orbits.winding_across_alternating_steps.Goals as goal

pub returns : goal.returns
returns c = winding_across_alternating_steps
