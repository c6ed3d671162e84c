-- Each list is a copy.
use Rattle.std.proofs.Common.{arith}
use Rattle.std.proofs.lemmas.Grind.{common_steps}
use Rattle.overlay_geom.proofs.flat.shapes.FlatShapesBuffer.clone.Goals as goal

pub returns-clause-points : goal.returns-clause-points
returns-clause-points g c = grind (arith, common_steps)

pub returns-clause-contour_ranges : goal.returns-clause-contour_ranges
returns-clause-contour_ranges g c = grind (arith, common_steps)

pub returns-clause-shape_ranges : goal.returns-clause-shape_ranges
returns-clause-shape_ranges g c = grind (arith, common_steps)
