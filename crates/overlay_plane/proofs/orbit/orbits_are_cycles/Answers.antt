-- An orbit visits each of its steps once, and holds with each step its next step and the step before it.
use Rattle.overlay_plane.proofs.OrbitSteps.{orbits_are_cycles}
use Rattle.overlay_plane.proofs.orbit.orbits_are_cycles.Goals as goal

pub returns : goal.returns
returns c = orbits_are_cycles
