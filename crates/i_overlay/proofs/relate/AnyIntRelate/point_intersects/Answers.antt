-- The call with a solver answers so.
use Rattle.i_overlay.proofs.relate.AnyIntRelate.point_intersects.Goals as goal

pub returns : goal.returns
returns g c = c.point_intersects_with_solver.ensures
