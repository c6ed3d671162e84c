-- The contours of the clip are added after those of the subject.
use Rattle.std.proofs.lemmas.Result.{err_from_is_err_and}
use Rattle.overlay_geom.specs.Flat.{paths_in}
use Rattle.polyover_views.proofs.Added.{subject_refused, both_added_to_nothing}
use Rattle.polyover_views.proofs.arranged.add_both.Goals as goal

pub returns-in_err-add_paths : goal.returns-in_err-add_paths
returns-in_err-add_paths g c =
    let whole = g.I.IntNumber.whole in
    let p = err_from_is_err_and c.from_residual.result c.from_residual.ensures.1 in
    rw (p.1, p.2) (subject_refused c.args.keep c.contour_kind-kind.result c.contour_kind-kind.ensures
    (paths_in whole c.args.subject.now.points.items c.args.subject.now.ranges.items)
    (paths_in whole c.args.clip.now.points.items c.args.clip.now.ranges.items)
    c.passing_without_data.result c.passing_without_data.ensures c.args.core.now c.add_paths.new.self
    c.requires.nothing c.in_err-add_paths.field-0.0 c.in_err-add_paths.ensures)

pub returns : goal.returns
returns g c =
    let whole = g.I.IntNumber.whole in
    both_added_to_nothing c.args.keep c.contour_kind-kind.result c.contour_kind-kind.ensures
    (paths_in whole c.args.subject.now.points.items c.args.subject.now.ranges.items)
    (paths_in whole c.args.clip.now.points.items c.args.clip.now.ranges.items)
    c.passing_without_data.result c.passing_without_data.ensures c.args.core.now c.add_paths.new.self
    c.requires.nothing c.passing_without_data-2.result c.passing_without_data-2.ensures c.add_paths-2.new.self
    c.in_ok-add_paths.field-0 c.in_ok-add_paths.ensures c.add_paths-2.result c.add_paths-2.ensures
