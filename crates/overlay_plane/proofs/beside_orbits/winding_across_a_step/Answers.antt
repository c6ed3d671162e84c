-- The winding on the left of a step is that on its right plus how often the step is taken, minus how often it is taken
-- back.
use Rattle.overlay_plane.proofs.BesideAcross.{winding_across_a_step}
use Rattle.overlay_plane.proofs.beside_orbits.winding_across_a_step.Goals as goal

pub returns : goal.returns
returns c = winding_across_a_step
