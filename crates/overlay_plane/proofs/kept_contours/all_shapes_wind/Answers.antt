-- The shapes have the windings of the selected steps.
use Rattle.overlay_plane.proofs.BoundSteps.{all_shapes_wind}
use Rattle.overlay_plane.proofs.kept_contours.all_shapes_wind.Goals as goal

pub returns : goal.returns
returns c = all_shapes_wind
