-- The call with a solver answers so.
use Rattle.i_overlay.proofs.relate.AnyIntRelate.disjoint.Goals as goal

pub returns : goal.returns
returns g c = c.disjoint_with_solver.ensures
