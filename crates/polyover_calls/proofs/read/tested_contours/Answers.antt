-- What is read is in range.
use Rattle.std.proofs.Common.{sym, subst}
use Rattle.overlay_geom.specs.Points.{plain_points, AllInRange}
use Rattle.polyover_calls.proofs.WithinPoints.{points_within, contours_within}
use Rattle.polyover_calls.proofs.read.tested_contours.Goals as goal

pub returns-clause-in_range : goal.returns-clause-in_range
returns-clause-in_range g c =
    let whole = g.I.IntNumber.whole in
    let limit = g.I.IntNumber.limit in
    contours_within whole limit c.in_ok-points.points.items c.in_ok-ranges.ranges.items
    (subst (λ ps. AllInRange limit (plain_points whole ps)) (sym c.in_ok-points.ensures.points)
    (points_within whole limit c.args.coordinates.now c.requires.within))
