-- The call with a solver answers so.
use Rattle.i_overlay.proofs.relate.AnyIntRelate.covers.Goals as goal

pub returns : goal.returns
returns g c = c.covers_with_solver.ensures
