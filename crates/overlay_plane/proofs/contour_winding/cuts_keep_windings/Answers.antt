-- A cut keeps the winding round each point.
use Rattle.overlay_plane.proofs.CutWindings.{cuts_keep_windings}
use Rattle.overlay_plane.proofs.contour_winding.cuts_keep_windings.Goals as goal

pub returns : goal.returns
returns c = cuts_keep_windings
