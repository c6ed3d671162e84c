-- The paths are those that are passed on.
use Rattle.overlay_string.proofs.string_overlay.StringOverlay.from_shape_and_string.Goals as goal

pub returns-clause-ok : goal.returns-clause-ok
returns-clause-ok g c = c.from_shape_and_string_custom.ensures.ok

pub returns-clause-err : goal.returns-clause-err
returns-clause-err g c = c.from_shape_and_string_custom.ensures.err
