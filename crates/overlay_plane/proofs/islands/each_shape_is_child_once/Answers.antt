-- Each shape is a child once.
use Rattle.overlay_plane.proofs.ShapeLinks.{child_once}
use Rattle.overlay_plane.proofs.islands.each_shape_is_child_once.Goals as goal

pub returns : goal.returns
returns c = child_once
