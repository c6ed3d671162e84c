-- What the builder refuses, of the arrays.
use Rattle.std.proofs.lemmas.Result.{err_from_is_err_and}
use Rattle.overlay_geom.specs.Flat.{paths_in}
use Rattle.polyover_calls.specs.Given.{contours_of}
use Rattle.polyover_exact.proofs.Told.{refused_so}
use Rattle.polyover_exact.proofs.relate.exact_bits.Goals as goal

pub returns-in_err-relations : goal.returns-in_err-relations
returns-in_err-relations g c =
    let whole = g.I.IntNumber.whole in
    let e = err_from_is_err_and c.from_residual-in_err-relations.result c.from_residual-in_err-relations.ensures.1 in
    let read = c.in_ok-read.ensures in
    rw (e.1, e.2) (refused_so whole g.I.IntNumber.limit c.args.fill
    (contours_of c.args.subject.now.coordinates.now c.args.subject.now.ends.now)
    (contours_of c.args.clip.now.coordinates.now c.args.clip.now.ends.now)
    c.in_err-relations.field-0.0
    (paths_in whole c.in_ok-read.read.first.points.items c.in_ok-read.read.first.ranges.items)
    (paths_in whole c.in_ok-read.read.second.points.items c.in_ok-read.read.second.ranges.items)
    c.in_ok-fill.ensures.0 read.first_given read.second_given read.first read.second c.in_err-relations.ensures)
