-- Up to the leftmost lowest point of the steps taken their winding is 0.
use Rattle.overlay_plane.proofs.BeforeTheSteps.{nothing_before_the_steps}
use Rattle.overlay_plane.proofs.beside_orbits.nothing_before_the_steps.Goals as goal

pub returns : goal.returns
returns c = nothing_before_the_steps
