-- What is not read, a grid that does not fit, and what the query takes and refuses.
use Rattle.std.proofs.Common.{sym, ap, subst, ◌∙◌}
use Rattle.std.proofs.lemmas.Bool.{iff_false}
use Rattle.std.proofs.lemmas.Result.{err_from_is_err_and}
use Rattle.overlay_geom.specs.Flat.{paths_in}
use Rattle.overlay_tiles.specs.Grids.{FitsGrid}
use Rattle.overlay_tiles.specs.Spans.{points_of_paths}
use Rattle.polyover_calls.specs.Given.{contours_of}
use Rattle.polyover_calls.proofs.Tiled.{contours_untiled, points_of_contours, tiling_refused, too_many_lines}
use Rattle.polyover_calls.proofs.tiles.tiles_answer.Goals as goal

pub returns-in_err-test_contours : goal.returns-in_err-test_contours
returns-in_err-test_contours g c =
    let e = err_from_is_err_and c.from_residual-in_err-test_contours.result
    c.from_residual-in_err-test_contours.ensures.1 in
    rw (e.1, e.2) (contours_untiled g.I.IntNumber.whole g.I.IntNumber.limit
    (contours_of c.args.subject.now.coordinates.now c.args.subject.now.ends.now) c.args.fill c.args.solver
    (g.I.IntNumber.whole c.args.grid.width) (g.I.IntNumber.whole c.args.grid.height)
    c.in_err-test_contours.field-0.0 c.in_ok-fill.ensures.0 c.in_ok-solver.ensures.0
    (c.has_cells.ensures.0 c.if-not-has_cells.false) c.in_err-test_contours.ensures)

pub returns-then-not-fits_across : goal.returns-then-not-fits_across
returns-then-not-fits_across g c = too_many_lines g.I.IntNumber.whole g.I.IntNumber.limit
    (contours_of c.args.subject.now.coordinates.now c.args.subject.now.ends.now) c.args.fill c.args.solver
    (g.I.IntNumber.whole c.args.grid.width) (g.I.IntNumber.whole c.args.grid.height) c.in_ok-fill.ensures.0
    c.in_ok-test_contours.ensures (iff_false c.fits_across.ensures c.if-not-fits_across.true)

pub slice_by_grid_with_solver-requires-clause-fits : goal.slice_by_grid_with_solver-requires-clause-fits
slice_by_grid_with_solver-requires-clause-fits g c =
    let whole = g.I.IntNumber.whole in
    let limit = g.I.IntNumber.limit in
    subst (FitsGrid limit (whole c.args.grid.width) (whole c.args.grid.height))
    (sym (points_of_contours whole limit
    (contours_of c.args.subject.now.coordinates.now c.args.subject.now.ends.now) c.in_ok-test_contours.ensures)
    ∙ ap points_of_paths (sym c.in_ok-contours.ensures.contours))
    (c.fits_across.ensures.0 c.if-not-fits_across.false)

pub returns-in_err-tiles : goal.returns-in_err-tiles
returns-in_err-tiles g c =
    let e = err_from_is_err_and c.from_residual-in_err-tiles.result c.from_residual-in_err-tiles.ensures.1 in
    rw (e.1, e.2) (tiling_refused g.I.IntNumber.whole g.I.IntNumber.limit
    (contours_of c.args.subject.now.coordinates.now c.args.subject.now.ends.now) c.args.fill c.args.solver
    (g.I.IntNumber.whole c.args.grid.width) (g.I.IntNumber.whole c.args.grid.height) c.in_ok-fill.ensures.0
    c.in_ok-solver.ensures.0 c.in_ok-test_contours.ensures (c.fits_across.ensures.0 c.if-not-fits_across.false)
    c.in_err-tiles.field-0.0 c.in_ok-solver.solver
    (paths_in g.I.IntNumber.whole c.in_ok-contours.contours.points.items c.in_ok-contours.contours.ranges.items)
    c.in_ok-solver.ensures.1 c.in_ok-contours.ensures.contours c.in_err-tiles.ensures.err)
