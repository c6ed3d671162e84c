-- A step has one orbit.
use Rattle.overlay_plane.proofs.OrbitsApart.{orbits_are_unique}
use Rattle.overlay_plane.proofs.orbit.orbits_are_unique.Goals as goal

pub returns : goal.returns
returns c = orbits_are_unique
