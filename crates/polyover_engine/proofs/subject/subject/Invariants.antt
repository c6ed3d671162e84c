use Rattle.std.proofs.Common.{take}
use Rattle.overlay_geom.specs.Paths.{paths_of_shape}
use Rattle.polyover_text.specs.Statements.{contours_at}
use Rattle.polyover_engine.specs.Subjects.{IsSubject}
use Rattle.polyover_engine.proofs.subject.subject.Given as goal

-- the contours so far are taken
abbrev pub invariant-loop-given : goal.invariant-loop-given
invariant-loop-given g l = IsSubject (take l.given-index (contours_at l.contours))
    (paths_of_shape (λ z. z) l.shape.items)
