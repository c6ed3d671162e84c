-- The call with a solver answers so.
use Rattle.i_overlay.proofs.relate.AnyIntRelate.interiors_intersect.Goals as goal

pub returns : goal.returns
returns g c = c.interiors_intersect_with_solver.ensures
