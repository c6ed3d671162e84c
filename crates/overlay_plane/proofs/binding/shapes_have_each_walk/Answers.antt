-- The shapes have each contour exactly once.
use Rattle.overlay_plane.proofs.BoundSteps.{shapes_have_each_walk}
use Rattle.overlay_plane.proofs.binding.shapes_have_each_walk.Goals as goal

pub returns : goal.returns
returns c = shapes_have_each_walk
