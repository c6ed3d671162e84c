-- What borrows the lists has the same paths.
use Rattle.overlay_string.proofs.string_overlay.StringOverlay.with_shape.Goals as goal

pub returns-clause-ok : goal.returns-clause-ok
returns-clause-ok g c = c.with_shape_contours.ensures.ok

pub returns-clause-made : goal.returns-clause-made
returns-clause-made g c = c.with_shape_contours.ensures.made

pub returns-clause-err : goal.returns-clause-err
returns-clause-err g c = c.with_shape_contours.ensures.err
