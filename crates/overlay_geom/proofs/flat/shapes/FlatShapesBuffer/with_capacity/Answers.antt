-- New lists are empty, and have the room that was asked for.
use Rattle.std.proofs.Common.{arith}
use Rattle.std.proofs.lemmas.Grind.{common_steps}
use Rattle.overlay_geom.proofs.flat.shapes.FlatShapesBuffer.with_capacity.Goals as goal

pub returns-clause-points : goal.returns-clause-points
returns-clause-points g c = grind (arith, common_steps)

pub returns-clause-contour_ranges : goal.returns-clause-contour_ranges
returns-clause-contour_ranges g c = grind (arith, common_steps)

pub returns-clause-shape_ranges : goal.returns-clause-shape_ranges
returns-clause-shape_ranges g c = grind (arith, common_steps)

pub returns-clause-points_fit : goal.returns-clause-points_fit
returns-clause-points_fit g c = grind (arith, common_steps)

pub returns-clause-contours_fit : goal.returns-clause-contours_fit
returns-clause-contours_fit g c = grind (arith, common_steps)

pub returns-clause-shapes_fit : goal.returns-clause-shapes_fit
returns-clause-shapes_fit g c = grind (arith, common_steps)
