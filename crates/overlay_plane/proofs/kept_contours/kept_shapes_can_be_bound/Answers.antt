-- The shapes can be bound again.
use Rattle.overlay_plane.proofs.ShapesApart.{kept_shapes_can_be_bound}
use Rattle.overlay_plane.proofs.kept_contours.kept_shapes_can_be_bound.Goals as goal

pub returns : goal.returns
returns c = kept_shapes_can_be_bound
