-- The first places have the numbers.
use Rattle.std.proofs.Common.{ap, subst, ◌∙◌, arith}
use Rattle.overlay_geom.specs.Flat.{paths_in}
use Rattle.overlay_geom.specs.Points.{plain_points}
use Rattle.polyover_calls.specs.Arrays.{written_over}
use Rattle.polyover_calls.proofs.Located.{located_ends}
use Rattle.polyover_calls.specs.Given.{contours_of}
use Rattle.polyover_calls.specs.Located.{AreNumbers}
use Rattle.polyover_calls.proofs.locate.locate.Goals as goal

pub returns : goal.returns
returns g c =
    let whole = g.I.IntNumber.whole in
    let paths = paths_in whole c.in_ok-contours.contours.points.items c.in_ok-contours.contours.ranges.items in
    let numbers = c.in_ok-numbers.numbers.items in
    located_ends whole g.I.IntNumber.limit
    (contours_of c.args.shape.now.coordinates.now c.args.shape.now.ends.now) c.args.points.now
    (record { locations = c.args.locations.now; unresolved = c.args.unresolved.now })
    c.in_ok-test_contours.ensures c.in_ok-test_points.ensures
    (omega (arith, c.if-locations-count_points.false, c.count_points.ensures))
    paths c.in_ok-points.points.items numbers c.write_over.new.room
    c.in_ok-contours.ensures.contours c.in_ok-points.ensures.points (rw c.in_default.is at c.in_ok-found.ensures.none)
    (subst (λ ps. AreNumbers paths (plain_points whole ps) numbers) c.deref.ensures.value
    c.in_ok-numbers.ensures.numbers)
    (c.write_over.ensures ∙ ap (λ ns. written_over ns c.args.locations.now) c.deref-2.ensures.value)
