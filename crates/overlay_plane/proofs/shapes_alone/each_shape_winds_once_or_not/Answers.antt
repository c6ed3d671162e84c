-- From the outline it goes over to each hole.
use Rattle.overlay_plane.proofs.ShapesAlone.{each_shape_winds_once_or_not}
use Rattle.overlay_plane.proofs.shapes_alone.each_shape_winds_once_or_not.Goals as goal

pub returns : goal.returns
returns c = each_shape_winds_once_or_not
