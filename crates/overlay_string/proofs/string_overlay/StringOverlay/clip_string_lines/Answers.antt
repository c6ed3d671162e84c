-- The other call answers so.
use Rattle.overlay_string.proofs.string_overlay.StringOverlay.clip_string_lines.Goals as goal

pub returns-clause-clipped : goal.returns-clause-clipped
returns-clause-clipped g c = c.clip_string_lines_with_solver.ensures.clipped

pub returns-clause-failed : goal.returns-clause-failed
returns-clause-failed g c = c.clip_string_lines_with_solver.ensures.failed

pub returns-clause-err : goal.returns-clause-err
returns-clause-err g c = c.clip_string_lines_with_solver.ensures.err
