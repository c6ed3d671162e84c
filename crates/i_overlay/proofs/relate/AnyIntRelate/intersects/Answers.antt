-- The call with a solver answers so.
use Rattle.i_overlay.proofs.relate.AnyIntRelate.intersects.Goals as goal

pub returns : goal.returns
returns g c = c.intersects_with_solver.ensures
