-- The call with a solver answers so.
use Rattle.i_overlay.proofs.relate.AnyIntRelate.within.Goals as goal

pub returns : goal.returns
returns g c = c.within_with_solver.ensures
