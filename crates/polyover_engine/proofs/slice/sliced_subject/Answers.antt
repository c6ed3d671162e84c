use Rattle.std.proofs.Common.{sym, ap, subst, ◌∙◌}
use Rattle.std.specs.Prelude.{All}
use Rattle.overlay_geom.specs.Paths.{paths_of_shape, plain_shapes}
use Rattle.overlay_geom.specs.Points.{AllInRange}
use Rattle.overlay_geom.specs.Numbers.{greatest_of_64_bits}
use Rattle.overlay_string.specs.OneShot.{shape_and_strings}
use Rattle.polyover_text.specs.Statements.{contours_at, figures_at}
use Rattle.polyover_engine.specs.Borrowed.{points_of_each}
use Rattle.polyover_engine.specs.Clips.{shape_and_lines}
use Rattle.polyover_engine.specs.Subjects.{subject_of}
use Rattle.polyover_engine.proofs.Slices.{slices_answered, subject_in_range}
use Rattle.polyover_engine.proofs.slice.sliced_subject.Goals as goal

pub slice_by_paths-requires-clause-self_in_range : goal.slice_by_paths-requires-clause-self_in_range
slice_by_paths-requires-clause-self_in_range g c =
    let fs = figures_at c.args.figures.now in
    subst (All (AllInRange greatest_of_64_bits))
    (sym (c.in_ok-subject.ensures.ok ∙ ap (λ l. subject_of (contours_at l)) c.deref.ensures.value))
    (subject_in_range fs.contours c.requires.contours)

pub slice_by_paths-requires-clause-paths_in_range : goal.slice_by_paths-requires-clause-paths_in_range
slice_by_paths-requires-clause-paths_in_range g c =
    subst (λ l. All (AllInRange greatest_of_64_bits) (paths_of_shape (λ z. z) l)) (sym c.deref-2.ensures.value)
    c.requires.lines

pub returns : goal.returns
returns g c =
    let fs = figures_at c.args.figures.now in
    let subject = c.in_ok-subject.ensures.ok ∙ ap (λ l. subject_of (contours_at l)) c.deref.ensures.value in
    let lines = paths_of_shape (λ z. z) c.deref-2.result.now in
    slices_answered (λ v. plain_shapes (λ z. z) v.items) c.args.fill_rule
    (shape_and_strings (points_of_each c.in_ok-subject.subject.contours.items) lines) (shape_and_lines fs)
    (ap (λ shape. shape_and_strings shape lines) subject
    ∙ ap (λ l. shape_and_strings (subject_of fs.contours) (paths_of_shape (λ z. z) l)) c.deref-2.ensures.value)
    c.slice_by_paths.result c.slice_by_paths.ensures.sliced c.slice_by_paths.ensures.err
