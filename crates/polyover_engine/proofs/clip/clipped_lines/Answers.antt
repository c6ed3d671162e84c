use Rattle.std.proofs.Common.{sym, ap, subst, ◌∙◌}
use Rattle.std.specs.Prelude.{Ok, Err, MatchResult, All}
use Rattle.std.proofs.lemmas.Result.{err_from_is_err_and}
use Rattle.overlay_geom.specs.Paths.{paths_of_shape}
use Rattle.overlay_geom.specs.Points.{AllInRange}
use Rattle.overlay_geom.specs.Numbers.{greatest_of_64_bits}
use Rattle.overlay_geom.specs.declared.solver.Solver.TheVariants.{Rounds}
use Rattle.overlay_string.specs.OneShot.{AreClippedOfPaths, MayRefusePaths}
use Rattle.overlay_string.specs.StringBuilder.{StringBuilderAdds}
use Rattle.overlay_string.specs.StringPaths.{shape_contours, open_strings}
use Rattle.overlay_string.proofs.OneShots.{builder_refused}
use Rattle.overlay_string.proofs.TwoSources.{first_paths_refused, second_paths_refused, both_held}
use Rattle.polyover_text.specs.Statements.{contours_at, figures_at}
use Rattle.polyover_engine.specs.Clips.{HoldsJust, shape_and_lines}
use Rattle.polyover_engine.specs.Subjects.{subject_of}
use Rattle.overlay_builder.specs.PathLists.{MayRefuseBuilder}
use Rattle.polyover_engine.proofs.Clips.{clip_answered}
use Rattle.polyover_engine.proofs.clip.clipped_lines.Goals as goal

pub add_string_paths-requires : goal.add_string_paths-requires
add_string_paths-requires g c =
    subst (λ l. All (AllInRange greatest_of_64_bits) (paths_of_shape (λ z. z) l)) (sym c.deref-2.ensures.value)
    c.requires.lines

pub returns-in_err-overlay : goal.returns-in_err-overlay
returns-in_err-overlay g c =
    let fs = figures_at c.args.figures in
    let p = err_from_is_err_and c.from_residual.result c.from_residual.ensures.1 in
    rw (p.1, p.2)
    (builder_refused Rounds (shape_and_lines fs) _
    (first_paths_refused (shape_contours (subject_of fs.contours)) (open_strings fs.lines) _
    (subst (λ l. MayRefuseBuilder (shape_contours (subject_of (contours_at l))) c.in_err-overlay.field-0.0)
    c.deref.ensures.value c.in_err-overlay.ensures)))

pub returns-in_err-add_string_paths : goal.returns-in_err-add_string_paths
returns-in_err-add_string_paths g c =
    let fs = figures_at c.args.figures in
    let old = c.in_ok-overlay.overlay in
    let held = subst (λ l. HoldsJust (shape_contours (subject_of (contours_at l))) old) c.deref.ensures.value
    c.in_ok-overlay.ensures in
    let p = err_from_is_err_and c.from_residual-in_err-add_string_paths.result
    c.from_residual-in_err-add_string_paths.ensures.1 in
    rw (p.1, p.2)
    (builder_refused Rounds (shape_and_lines fs) _
    (second_paths_refused (shape_contours (subject_of fs.contours)) (open_strings fs.lines) old
    c.add_string_paths.new.self held.holds.added held.ready c.in_err-add_string_paths.field-0.0
    (subst (λ l. StringBuilderAdds {V = Unit {0}} (open_strings (paths_of_shape (λ z. z) l)) old
    c.add_string_paths.new.self (Err c.in_err-add_string_paths.field-0.0)) c.deref-2.ensures.value
    c.in_err-add_string_paths.ensures)))

pub returns : goal.returns
returns g c =
    let fs = figures_at c.args.figures in
    let shape = shape_contours (subject_of fs.contours) in
    let strings = open_strings fs.lines in
    let old = c.in_ok-overlay.overlay in
    let new = c.add_string_paths.new.self in
    let held = subst (λ l. HoldsJust (shape_contours (subject_of (contours_at l))) old) c.deref.ensures.value
    c.in_ok-overlay.ensures in
    let added = subst (λ l. StringBuilderAdds {V = Unit {0}} (open_strings (paths_of_shape (λ z. z) l)) old new (Ok tt))
    c.deref-2.ensures.value c.in_ok-add_string_paths.ensures in
    subst (λ rule. MatchResult c.clip_string_lines.result
    (λ v. AreClippedOfPaths Rounds c.args.query.fill_rule rule (shape_and_lines fs) (paths_of_shape (λ z. z) v.items))
    (λ e. MayRefusePaths Rounds (shape_and_lines fs) e)) c.clip_rule.ensures
    (clip_answered (λ v. paths_of_shape (λ z. z) v.items) c.args.query.fill_rule c.clip_rule.result
    (shape_and_lines fs) new
    (record {
      holds = both_held shape strings old new held.holds.added added;
      ready = ap (λ b. b.failed) added.kept ∙ held.ready;
    })
    c.clip_string_lines.result c.clip_string_lines.ensures.clipped c.clip_string_lines.ensures.failed
    c.clip_string_lines.ensures.err)
