-- The builder has the options of the query.
use Rattle.std.proofs.Common.{false, subst}
use Rattle.std.proofs.lemmas.Result.{err_from_is_err_and}
use Rattle.overlay_builder.specs.GivenPaths.{added_paths}
use Rattle.overlay_builder.specs.PathLists.{MayRefuseBuilder}
use Rattle.overlay_geom.specs.Flat.{shapes_in}
use Rattle.overlay_geom.specs.declared.solver.Solver.TheVariants.{Rounds}
use Rattle.polyover_text.specs.Grammar.{contour_paths, paths_of}
use Rattle.polyover_text.specs.Statements.{contours_at, figures_at}
use Rattle.i_overlay.specs.Builder.{held_by}
use Rattle.i_overlay.proofs.OneShots.{adding_refused}
use Rattle.polyover_engine.specs.Builders.{IsAskedBuilder}
use Rattle.polyover_engine.proofs.Queries.{shapes_answered}
use Rattle.polyover_engine.proofs.overlay.overlay_shapes.Goals as goal

pub returns : goal.returns
returns g c =
    let b = c.in_ok-builder.builder in
    let e = c.into_flat_shapes.ensures in
    let held = subst (λ l. IsAskedBuilder (contour_paths (contours_at l)) c.args.query b) c.deref.ensures.value
    c.in_ok-builder.ensures in
    shapes_answered (paths_of (figures_at c.args.figures)) c.args.query b held _
    (λ v. shapes_in (λ z. z) v.points.items v.contour_ranges.items v.shape_ranges.items)
    (held_by e.answers.after) c.into_flat_shapes.result e.answers.extracts.query e.answers.is_result

pub returns-in_err-builder : goal.returns-in_err-builder
returns-in_err-builder g c =
    let p = err_from_is_err_and c.from_residual.result c.from_residual.ensures.1 in
    rw (p.1, p.2) (adding_refused Rounds (paths_of (figures_at c.args.figures)) _
    (subst (λ l. MayRefuseBuilder (added_paths false (contour_paths (contours_at l))) c.in_err-builder.field-0.0)
    c.deref.ensures.value c.in_err-builder.ensures))
