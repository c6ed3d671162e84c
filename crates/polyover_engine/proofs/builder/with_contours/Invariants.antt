use Rattle.std.proofs.Common.{take}
use Rattle.polyover_text.specs.Grammar.{contour_paths}
use Rattle.polyover_text.specs.Statements.{contours_at}
use Rattle.polyover_engine.specs.Builders.{HasAdded}
use Rattle.polyover_engine.proofs.builder.with_contours.Given as goal

-- the contours so far are added
abbrev pub invariant-loop-given : goal.invariant-loop-given
invariant-loop-given g l = HasAdded (take l.given-index (contour_paths (contours_at l.contours))) l.overlay
