-- Contours that are read are those of the arrays.
use Rattle.overlay_geom.specs.Flat.{paths_in}
use Rattle.polyover_calls.proofs.ShapesRead.{shape_read, unresolved_read}
use Rattle.polyover_calls.proofs.shape.test_resolved.Goals as goal

pub returns-in-Some : goal.returns-in-Some
returns-in-Some g c =
    let whole = g.I.IntNumber.whole in
    unresolved_read whole g.I.IntNumber.limit c.args.coordinates.now c.args.ends.now
    (paths_in whole c.in_ok-contours.contours.points.items c.in_ok-contours.contours.ranges.items) c.in-Some._contour
    c.in_ok-contours.ensures.read c.in_ok-contours.ensures.contours (rw c.in-Some.is at c.in_ok-found.ensures.first)

pub returns : goal.returns
returns g c =
    let whole = g.I.IntNumber.whole in
    shape_read whole g.I.IntNumber.limit c.args.coordinates.now c.args.ends.now
    (paths_in whole c.in_ok-contours.contours.points.items c.in_ok-contours.contours.ranges.items)
    c.in_ok-contours.ensures.read c.in_ok-contours.ensures.contours (rw c.in-None.is at c.in_ok-found.ensures.none)
