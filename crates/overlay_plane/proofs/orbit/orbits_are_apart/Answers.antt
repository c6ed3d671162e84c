-- Orbits that share a step have the same steps.
use Rattle.overlay_plane.proofs.OrbitsApart.{orbits_are_apart}
use Rattle.overlay_plane.proofs.orbit.orbits_are_apart.Goals as goal

pub returns : goal.returns
returns c = orbits_are_apart
