-- A shape is found for each hole.
use Rattle.overlay_plane.proofs.FreeHoles.{all_holes_have_shapes}
use Rattle.overlay_plane.proofs.kept_contours.all_holes_have_shapes.Goals as goal

pub returns : goal.returns
returns c = all_holes_have_shapes
