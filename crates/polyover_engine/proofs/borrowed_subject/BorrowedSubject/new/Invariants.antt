use Rattle.std.proofs.Common.{◌≡◌, take}
use Rattle.polyover_text.specs.Statements.{contours_at}
use Rattle.polyover_engine.specs.Borrowed.{points_of_each}
use Rattle.polyover_engine.specs.Subjects.{subject_of}
use Rattle.polyover_engine.proofs.borrowed_subject.BorrowedSubject.new.Given as goal

-- the contours of the subject so far are taken
abbrev pub invariant-loop-given : goal.invariant-loop-given
invariant-loop-given g l =
    points_of_each l.paths.items ≡ subject_of (take l.given-index (contours_at l.contours))
