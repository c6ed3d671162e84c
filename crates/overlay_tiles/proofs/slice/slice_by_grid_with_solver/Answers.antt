-- The shape is sliced along the lines that were found, and so into tiles.
use Rattle.std.proofs.Common.{sym, subst, All}
use Rattle.std.proofs.lemmas.Result.{IfOk-weaker}
use Rattle.overlay_geom.specs.Paths.{plain_shapes}
use Rattle.overlay_geom.specs.Points.{AllInRange}
use Rattle.overlay_geom.proofs.Signs.{linear}
use Rattle.overlay_string.specs.StringPaths.{paths_of_lines}
use Rattle.overlay_tiles.specs.Grids.{AreGridLines}
use Rattle.overlay_tiles.specs.Spans.{points_of_paths}
use Rattle.overlay_tiles.proofs.TilesInCells.{are_tiles}
use Rattle.overlay_tiles.proofs.TilesRefused.{tiles_refused}
use Rattle.overlay_tiles.proofs.slice.slice_by_grid_with_solver.Goals as goal

pub slice_by_source_with_solver-requires-clause-source_in_range :
    goal.slice_by_source_with_solver-requires-clause-source_in_range
slice_by_source_with_solver-requires-clause-source_in_range g c =
    subst (λ ls. All (AllInRange g.I.IntNumber.limit) (paths_of_lines g.I.IntNumber.whole ls))
    (sym c.deref.ensures.value) c.in_ok-lines.ensures.in_range

pub returns-clause-sliced : goal.returns-clause-sliced
returns-clause-sliced g c =
    let whole = g.I.IntNumber.whole in
    let paths = g.R0.IntShapeResource.paths c.args.resource.now in
    let width = c.requires.fits.width_fits.positive in
    let height = c.requires.fits.height_fits.positive in
    let lines = paths_of_lines whole c.deref.result.now in
    let of_grid = subst (λ ls. AreGridLines (whole c.args.grid.width) (whole c.args.grid.height)
    (points_of_paths paths) (paths_of_lines whole ls)) (sym c.deref.ensures.value) c.in_ok-lines.ensures.lines in
    IfOk-weaker c.slice_by_source_with_solver.result _ _
    (λ v are. are_tiles c.args.solver g.I.Wide.WideIntNumber.width c.args.fill_rule (whole c.args.grid.width)
    (whole c.args.grid.height) (omega linear) (omega linear) paths lines (plain_shapes whole v.items) are of_grid)
    c.slice_by_source_with_solver.ensures.sliced

pub returns-clause-err : goal.returns-clause-err
returns-clause-err g c =
    let whole = g.I.IntNumber.whole in
    let paths = g.R0.IntShapeResource.paths c.args.resource.now in
    tiles_refused c.args.solver (whole c.args.grid.width) (whole c.args.grid.height) paths
    (paths_of_lines whole c.deref.result.now)
    (subst (λ ls. AreGridLines (whole c.args.grid.width) (whole c.args.grid.height)
    (points_of_paths paths) (paths_of_lines whole ls)) (sym c.deref.ensures.value) c.in_ok-lines.ensures.lines)
    c.slice_by_source_with_solver.result c.slice_by_source_with_solver.ensures.err
