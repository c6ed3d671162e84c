-- An orbit is a closed contour.
use Rattle.overlay_plane.proofs.ClosedWalks.{orbits_are_contours}
use Rattle.overlay_plane.proofs.contours.orbits_are_contours.Goals as goal

pub returns : goal.returns
returns c = orbits_are_contours
