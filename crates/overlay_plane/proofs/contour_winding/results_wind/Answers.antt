-- The contours' points, as given or thinned, have the windings of the selected steps.
use Rattle.overlay_plane.proofs.ResultWindings.{results_wind}
use Rattle.overlay_plane.proofs.contour_winding.results_wind.Goals as goal

pub returns : goal.returns
returns c = results_wind
