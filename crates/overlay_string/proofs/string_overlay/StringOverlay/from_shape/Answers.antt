-- The paths are those that are passed on.
use Rattle.overlay_string.proofs.string_overlay.StringOverlay.from_shape.Goals as goal

pub returns-clause-ok : goal.returns-clause-ok
returns-clause-ok g c = c.from_shape_custom.ensures.ok

pub returns-clause-err : goal.returns-clause-err
returns-clause-err g c = c.from_shape_custom.ensures.err
