use Rattle.std.proofs.Common.{take}
use Rattle.polyover_text.specs.Grammar.{contour_paths}
use Rattle.polyover_text.specs.Statements.{contours_at}
use Rattle.i_overlay.specs.Relations.{HasAddedUnder}
use Rattle.polyover_engine.proofs.predicate_builder.with_contours.Given as goal
use Rattle.overlay_geom.specs.declared.solver.Solver.TheVariants.{Rounds}

-- the contours so far are added
abbrev pub invariant-loop-given : goal.invariant-loop-given
invariant-loop-given g l = HasAddedUnder Rounds l.fn.fill_rule
    (take l.given-index (contour_paths (contours_at l.contours))) l.overlay
