-- A range more is a contour more.
use Rattle.std.proofs.Common.{arith}
use Rattle.std.proofs.lemmas.Grind.{common_steps}
use Rattle.overlay_geom.proofs.flat.shapes.contours_of.Goals as goal

pub loop-range-preserved : goal.loop-range-preserved
loop-range-preserved g c = grind (arith, common_steps)

pub returns : goal.returns
returns g c = record {
  ok = grind (arith, common_steps);
}
