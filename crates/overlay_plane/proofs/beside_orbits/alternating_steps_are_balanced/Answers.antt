-- Steps that alternate, each once, have balanced counts.
use Rattle.overlay_plane.proofs.BalancedSteps.{alternating_steps_are_balanced}
use Rattle.overlay_plane.proofs.beside_orbits.alternating_steps_are_balanced.Goals as goal

pub returns : goal.returns
returns c = alternating_steps_are_balanced
