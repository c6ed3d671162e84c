use Rattle.std.proofs.Common.{take}
use Rattle.overlay_string.specs.StringPaths.{shape_contours}
use Rattle.polyover_text.specs.Statements.{contours_at}
use Rattle.polyover_engine.specs.Clips.{HoldsJust}
use Rattle.polyover_engine.specs.Subjects.{subject_of}
use Rattle.polyover_engine.proofs.string_builder.with_subject_shape.Given as goal

-- the contours of the subject so far are added
abbrev pub invariant-loop-given : goal.invariant-loop-given
invariant-loop-given g l =
    HoldsJust (shape_contours (subject_of (take l.given-index (contours_at l.contours)))) l.overlay
