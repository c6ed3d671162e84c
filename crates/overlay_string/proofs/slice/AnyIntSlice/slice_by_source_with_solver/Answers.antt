-- The new builder answers of the paths that were added to it.
use Rattle.std.proofs.lemmas.Result.{IfOk-weaker, err_from_is_err_and}
use Rattle.overlay_geom.specs.Paths.{plain_shapes}
use Rattle.overlay_string.specs.OneShot.{shape_and_strings}
use Rattle.overlay_string.proofs.FarSlices.{slices_of_paths}
use Rattle.overlay_string.proofs.OneShots.{builder_refused, clip_refused}
use Rattle.overlay_string.proofs.slice.AnyIntSlice.slice_by_source_with_solver.Goals as goal

pub returns-in_err-overlay-clause-err : goal.returns-in_err-overlay-clause-err
returns-in_err-overlay-clause-err g c =
    let paths = shape_and_strings (g.R0.IntShapeResource.paths c.args.self.now)
    (g.R1.IntShapeResource.paths c.args.source.now) in
    let p = err_from_is_err_and c.from_residual.result c.from_residual.ensures.1 in
    rw (p.1, p.2) (builder_refused c.args.solver paths c.in_err-overlay.field-0.0 c.in_err-overlay.ensures.err)

pub returns-clause-sliced : goal.returns-clause-sliced
returns-clause-sliced g c =
    IfOk-weaker c.into_slices.result _ _
    (λ v are. slices_of_paths c.args.solver g.I.Wide.WideIntNumber.width c.args.fill_rule c.in_ok-overlay.overlay.edges
    (plain_shapes g.I.IntNumber.whole v.items) are
    (shape_and_strings (g.R0.IntShapeResource.paths c.args.self.now) (g.R1.IntShapeResource.paths c.args.source.now))
    c.in_ok-overlay.ensures.ok)
    c.into_slices.ensures.sliced

pub returns-clause-err : goal.returns-clause-err
returns-clause-err g c =
    let paths = shape_and_strings (g.R0.IntShapeResource.paths c.args.self.now)
    (g.R1.IntShapeResource.paths c.args.source.now) in
    clip_refused c.args.solver paths c.in_ok-overlay.overlay.edges c.in_ok-overlay.overlay.failed
    c.in_ok-overlay.ensures.ok c.in_ok-overlay.ensures.made.ready c.into_slices.result c.into_slices.ensures.failed
    c.into_slices.ensures.err
