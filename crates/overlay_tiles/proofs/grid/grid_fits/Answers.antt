-- It fits where there are few lines across the box that was found.
use Rattle.overlay_tiles.specs.Spans.{points_of_paths}
use Rattle.overlay_tiles.proofs.LinesAcross.{fits_where_few, few_where_fits}
use Rattle.overlay_tiles.proofs.grid.grid_fits.Goals as goal

pub returns-then-has_cells : goal.returns-then-has_cells
returns-then-has_cells g c =
    let whole = g.I.IntNumber.whole in
    let limit = g.I.IntNumber.limit in
    let w = whole c.args.grid.width in
    let h = whole c.args.grid.height in
    let points = points_of_paths (g.R0.IntShapeResource.paths c.args.resource.now) in
    let cells = c.has_cells.ensures.0 c.if-has_cells.true in
    let bounds = c.bounds_of.result in
    let found = c.bounds_of.ensures.found in (
      λ few. fits_where_few whole limit w h points bounds found cells.0 cells.1 (c.has_few_lines.ensures.0 few),
      λ fits. c.has_few_lines.ensures.1 (few_where_fits whole limit w h points bounds found fits),
    )
