-- The call with a solver answers so.
use Rattle.overlay_string.proofs.slice.AnyIntSlice.slice_by_source.Goals as goal

pub returns-clause-sliced : goal.returns-clause-sliced
returns-clause-sliced g c = c.slice_by_source_with_solver.ensures.sliced

pub returns-clause-err : goal.returns-clause-err
returns-clause-err g c = c.slice_by_source_with_solver.ensures.err
