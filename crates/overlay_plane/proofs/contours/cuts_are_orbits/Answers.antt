-- The steps left by the first walks alternate, and the next walk is the orbit of their start.
use Rattle.overlay_plane.proofs.CutWalks.{cuts_are_orbits}
use Rattle.overlay_plane.proofs.contours.cuts_are_orbits.Goals as goal

pub returns : goal.returns
returns c = cuts_are_orbits
