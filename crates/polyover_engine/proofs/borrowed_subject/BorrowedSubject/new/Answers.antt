use Rattle.std.proofs.Common.{◌≡◌, ◌++◌, ℤ, append-nil, refl, sym, ap, ◌∙◌}
use Rattle.overlay_geom.specs.declared.path.PathRef.{PathRef}
use Rattle.polyover_text.specs.Points.{points_at}
use Rattle.polyover_text.specs.Statements.{contour_at, contours_at}
use Rattle.polyover_engine.specs.Borrowed.{points_of_each}
use Rattle.polyover_engine.specs.Subjects.{subject_part}
use Rattle.polyover_engine.proofs.Builders.{given_here}
use Rattle.polyover_engine.proofs.Subjects.{subject_so_far, points_pushed}
use Rattle.polyover_engine.proofs.borrowed_subject.BorrowedSubject.new.Goals.{in-Subject+in_ok-push-in-Subject, in-Clip}
use Rattle.polyover_engine.proofs.borrowed_subject.BorrowedSubject.new.Goals as goal

pub loop-given-preserved : goal.loop-given-preserved
loop-given-preserved g c =
    let here = given_here c.args.contours.now _ _ c.given-item.result refl c.loop-given-test.true c.given-item.is in
    let old = points_of_each c.loop-given.paths.items in
    let new = points_of_each c.match-contour.paths.items in
    let given = c.given-item.result.contour in
    let added : new ≡ old ++ subject_part given.shape_type (points_at given.points.items) =
    elim c.match-contour.branch [
      | in-Subject+in_ok-push-in-Subject w ↦
          ap (λ s. points_of_each s.items) w.paths-is
          ∙ points_pushed (λ (p : PathRef ℤ). p.points.now) _ _ _ _ w.in_ok-push-in-Subject.ensures.items
          (w.new.ensures ∙ w.deref.ensures.value)
          ∙ ap (λ t. old ++ subject_part t (points_at given.points.items)) (sym w.in-Subject.is)
      | in-Clip w ↦
          ap (λ s. points_of_each s.items) w.paths-is ∙ sym (append-nil old)
          ∙ ap (λ t. old ++ subject_part t (points_at given.points.items)) (sym w.in-Clip.is)
    ] in
    subject_so_far (contours_at c.args.contours.now) c.loop-given.given-index (contour_at c.given-item.result)
    here.0 here.1 old new c.loop-given.invariant added
