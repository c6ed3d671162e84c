-- An orbit has three steps or more.
use Rattle.overlay_plane.proofs.OrbitSteps.{orbits_have_three_steps}
use Rattle.overlay_plane.proofs.orbit.orbits_have_three_steps.Goals as goal

pub returns : goal.returns
returns c = orbits_have_three_steps
