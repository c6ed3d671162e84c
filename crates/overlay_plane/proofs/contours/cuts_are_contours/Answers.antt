-- The walks that a cut gives are closed contours.
use Rattle.overlay_plane.proofs.ClosedWalks.{cuts_are_contours}
use Rattle.overlay_plane.proofs.contours.cuts_are_contours.Goals as goal

pub returns : goal.returns
returns c = cuts_are_contours
