-- Contours have equal windings as given and thinned.
use Rattle.overlay_plane.proofs.CutWindings.{thinned_contours_wind_alike}
use Rattle.overlay_plane.proofs.contour_winding.thinned_contours_wind_alike.Goals as goal

pub returns : goal.returns
returns c = thinned_contours_wind_alike
