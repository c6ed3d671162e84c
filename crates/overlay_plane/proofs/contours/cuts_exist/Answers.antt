-- Every set of steps that alternates can be cut.
use Rattle.overlay_plane.proofs.CutsExist.{cuts_exist}
use Rattle.overlay_plane.proofs.contours.cuts_exist.Goals as goal

pub returns : goal.returns
returns c = cuts_exist
