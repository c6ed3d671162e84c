-- Two resources are disjoint where they do not intersect.
use Rattle.overlay_geom.specs.declared.fill_rule.FillRule.TheVariants.{EvenOdd}
use Rattle.i_overlay.proofs.Relations.{disjoint_of_paths}
use Rattle.i_overlay.proofs.relate.AnyIntRelate.disjoint_with_solver.Goals as goal

pub returns : goal.returns
returns g c = record {
  answer = disjoint_of_paths c.args.solver EvenOdd _ c.in_ok-meets.meets c.in_ok-meets.ensures.answer;
  err = tt;
}
