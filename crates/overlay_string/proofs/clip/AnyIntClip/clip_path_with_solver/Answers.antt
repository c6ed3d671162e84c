-- What is passed on has these paths.
use Rattle.overlay_string.proofs.clip.AnyIntClip.clip_path_with_solver.Goals as goal

pub returns-clause-clipped : goal.returns-clause-clipped
returns-clause-clipped g c = c.clip_source_with_solver.ensures.clipped

pub returns-clause-err : goal.returns-clause-err
returns-clause-err g c = c.clip_source_with_solver.ensures.err
