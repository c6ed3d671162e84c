use Rattle.std.proofs.Common.{false, map, subst}
use Rattle.std.proofs.lemmas.Result.{err_from_is_err_and}
use Rattle.overlay_order.specs.Vectors.{plain_vector}
use Rattle.overlay_builder.specs.GivenPaths.{added_paths}
use Rattle.overlay_builder.specs.PathLists.{MayRefuseBuilder}
use Rattle.polyover_text.specs.Grammar.{contour_paths, paths_of}
use Rattle.polyover_text.specs.Statements.{contours_at, figures_at}
use Rattle.i_overlay.proofs.OneShots.{adding_refused}
use Rattle.polyover_engine.specs.Builders.{HasAdded}
use Rattle.polyover_engine.proofs.Queries.{edges_answered}
use Rattle.polyover_engine.proofs.edges.arranged_edges.Goals as goal
use Rattle.overlay_geom.specs.declared.solver.Solver.TheVariants.{Rounds}

pub returns : goal.returns
returns g c =
    let e = c.build_separate_vectors.ensures in
    let b = c.in_ok-builder.builder in
    edges_answered (paths_of (figures_at c.args.figures)) b
    (subst (λ l. HasAdded (contour_paths (contours_at l)) b) c.deref.ensures.value c.in_ok-builder.ensures)
    _ (λ v. map (plain_vector (λ z. z)) v.items) c.args.fill_rule _ _ e.answers.query e.listed

pub returns-in_err-builder : goal.returns-in_err-builder
returns-in_err-builder g c =
    let p = err_from_is_err_and c.from_residual.result c.from_residual.ensures.1 in
    rw (p.1, p.2) (adding_refused Rounds (paths_of (figures_at c.args.figures)) _
    (subst (λ l. MayRefuseBuilder (added_paths false (contour_paths (contours_at l))) c.in_err-builder.field-0.0)
    c.deref.ensures.value c.in_err-builder.ensures))
