-- The law is proved in proofs/OrbitsApart.antt.
use Rattle.overlay_plane.proofs.OrbitsApart.{orbits_are_closed}
use Rattle.overlay_plane.proofs.orbit.orbits_are_closed.Goals as goal

pub returns : goal.returns
returns c = orbits_are_closed
