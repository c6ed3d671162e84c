-- The call with a solver answers so.
use Rattle.overlay_tiles.proofs.slice.slice_by_grid.Goals as goal

pub returns-clause-sliced : goal.returns-clause-sliced
returns-clause-sliced g c = c.slice_by_grid_with_solver.ensures.sliced

pub returns-clause-err : goal.returns-clause-err
returns-clause-err g c = c.slice_by_grid_with_solver.ensures.err
