-- The call with a solver answers so.
use Rattle.i_overlay.proofs.single.AnySingleIntOverlay.overlay.Goals as goal

pub returns-clause-result : goal.returns-clause-result
returns-clause-result g c = c.overlay_with_solver.ensures.result

pub returns-clause-err : goal.returns-clause-err
returns-clause-err g c = c.overlay_with_solver.ensures.err
