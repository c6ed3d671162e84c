-- All relations are told of one arrangement.
use Rattle.std.proofs.Common.{false, subst}
use Rattle.std.proofs.lemmas.Result.{err_from_is_err_and}
use Rattle.overlay_builder.specs.GivenPaths.{added_paths}
use Rattle.overlay_builder.specs.PathLists.{MayRefuseBuilder}
use Rattle.overlay_relate.specs.Exchanged.{exchanged_paths}
use Rattle.polyover_text.specs.Grammar.{contour_paths, paths_of}
use Rattle.polyover_text.specs.Statements.{contours_at, figures_at}
use Rattle.i_overlay.specs.Relations.{HasAddedUnder}
use Rattle.i_overlay.proofs.OneShots.{adding_refused}
use Rattle.i_overlay.proofs.ToldRelations.{covering_exchanged, relations_or_refused}
use Rattle.polyover_engine.proofs.relations.relations.Goals as goal
use Rattle.overlay_geom.specs.declared.solver.Solver.TheVariants.{Rounds}

pub returns-in_err-overlay : goal.returns-in_err-overlay
returns-in_err-overlay g c =
    let e = err_from_is_err_and c.from_residual.result c.from_residual.ensures.1 in
    rw (e.1, e.2) (adding_refused Rounds (paths_of (figures_at c.args.figures)) _
    (subst (λ l. MayRefuseBuilder (added_paths false (contour_paths (contours_at l))) c.in_err-overlay.field-0.0)
    c.deref.ensures.value c.in_err-overlay.ensures))

pub returns : goal.returns
returns g c =
    let cs = paths_of (figures_at c.args.figures) in
    let old = c.in_ok-overlay.overlay in
    relations_or_refused Rounds c.relations.result _ c.args.fill_rule cs (exchanged_paths cs) old
    c.relations.new.self
    (subst (λ l. HasAddedUnder Rounds c.args.fill_rule (contour_paths (contours_at l)) old) c.deref.ensures.value
    c.in_ok-overlay.ensures)
    (covering_exchanged Rounds c.args.fill_rule cs) c.relations.ensures
