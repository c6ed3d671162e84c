-- It fits where there are few lines across the box that was found.
use Rattle.overlay_geom.specs.Points.{plain_points}
use Rattle.overlay_tiles.proofs.LinesAcross.{few_where_fits, fits_where_few, found_in_range}
use Rattle.polyover_calls.specs.Arrays.{points_of}
use Rattle.polyover_calls.proofs.WithinPoints.{points_within}
use Rattle.polyover_calls.proofs.grid.fits_across.Goals as goal

pub has_few_lines-requires-clause-bounds : goal.has_few_lines-requires-clause-bounds
has_few_lines-requires-clause-bounds g c =
    let whole = g.I.IntNumber.whole in
    let limit = g.I.IntNumber.limit in
    found_in_range whole limit (plain_points whole (points_of c.args.coordinates.now)) c.box_of.result
    (points_within whole limit c.args.coordinates.now c.requires.within) c.box_of.ensures

pub returns : goal.returns
returns g c =
    let whole = g.I.IntNumber.whole in
    let limit = g.I.IntNumber.limit in
    let w = whole c.args.grid.width in
    let h = whole c.args.grid.height in
    let points = plain_points whole (points_of c.args.coordinates.now) in
    let found = c.box_of.ensures in (
      λ few. fits_where_few whole limit w h points c.box_of.result found c.requires.width c.requires.height
          (c.has_few_lines.ensures.0 few),
      λ fits. c.has_few_lines.ensures.1 (few_where_fits whole limit w h points c.box_of.result found fits),
    )
