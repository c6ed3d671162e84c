-- The steps left by an orbit alternate.
use Rattle.overlay_plane.proofs.OrbitsApart.{orbits_leave_the_rest}
use Rattle.overlay_plane.proofs.orbit.orbits_leave_the_rest.Goals as goal

pub returns : goal.returns
returns c = orbits_leave_the_rest
