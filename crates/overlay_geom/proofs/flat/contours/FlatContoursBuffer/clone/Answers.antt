-- Each list is a copy.
use Rattle.std.proofs.Common.{arith}
use Rattle.std.proofs.lemmas.Grind.{common_steps}
use Rattle.overlay_geom.proofs.flat.contours.FlatContoursBuffer.clone.Goals as goal

pub returns-clause-points : goal.returns-clause-points
returns-clause-points g c = grind (arith, common_steps)

pub returns-clause-ranges : goal.returns-clause-ranges
returns-clause-ranges g c = grind (arith, common_steps)
