-- The shapes have each selected step once.
use Rattle.overlay_plane.proofs.BoundSteps.{all_shapes_have_each_step}
use Rattle.overlay_plane.proofs.kept_contours.all_shapes_have_each_step.Goals as goal

pub returns : goal.returns
returns c = all_shapes_have_each_step
