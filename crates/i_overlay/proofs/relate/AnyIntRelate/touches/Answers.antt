-- The call with a solver answers so.
use Rattle.i_overlay.proofs.relate.AnyIntRelate.touches.Goals as goal

pub returns : goal.returns
returns g c = c.touches_with_solver.ensures
