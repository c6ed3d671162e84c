-- The contours of the selected steps have the windings of these steps.
use Rattle.overlay_plane.proofs.CutWindings.{contours_wind}
use Rattle.overlay_plane.proofs.contour_winding.contours_wind.Goals as goal

pub returns : goal.returns
returns c = contours_wind
