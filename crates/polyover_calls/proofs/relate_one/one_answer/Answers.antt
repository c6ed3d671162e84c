-- What is not read, and what is told of the arrays.
use Rattle.std.proofs.lemmas.Result.{err_from_is_err_and}
use Rattle.overlay_geom.specs.Flat.{paths_in}
use Rattle.polyover_calls.proofs.RelatedOne.{contours_untold, answer_told}
use Rattle.polyover_calls.specs.Given.{contours_of}
use Rattle.polyover_calls.proofs.relate_one.one_answer.Goals as goal

pub returns-in_err-read : goal.returns-in_err-read
returns-in_err-read g c =
    let e = err_from_is_err_and c.from_residual-in_err-read.result c.from_residual-in_err-read.ensures.1 in
    rw (e.1, e.2) (contours_untold g.I.IntNumber.whole g.I.IntNumber.limit c.args.relation c.args.fill c.args.solver
    (contours_of c.args.subject.now.coordinates.now c.args.subject.now.ends.now)
    (contours_of c.args.clip.now.coordinates.now c.args.clip.now.ends.now) c.in_ok-relation.relation
    c.in_err-read.field-0.0 c.in_ok-fill.ensures.0 c.in_ok-relation.ensures c.in_ok-solver.ensures.0
    c.in_err-read.ensures.err)

pub returns : goal.returns
returns g c =
    let whole = g.I.IntNumber.whole in
    let read = c.in_ok-read.ensures in
    answer_told whole g.I.IntNumber.limit c.args.relation c.args.fill c.args.solver
    (contours_of c.args.subject.now.coordinates.now c.args.subject.now.ends.now)
    (contours_of c.args.clip.now.coordinates.now c.args.clip.now.ends.now) c.in_ok-fill.fill
    c.in_ok-relation.relation c.in_ok-solver.solver
    (paths_in whole c.in_ok-read.read.first.points.items c.in_ok-read.read.first.ranges.items)
    (paths_in whole c.in_ok-read.read.second.points.items c.in_ok-read.read.second.ranges.items)
    c.in_ok-holds.holds c.number_of.result c.in_ok-fill.ensures.0 c.in_ok-relation.ensures c.in_ok-solver.ensures.0
    read.first_given read.second_given c.in_ok-fill.ensures.1 c.in_ok-solver.ensures.1 read.first read.second
    c.in_ok-holds.ensures c.number_of.ensures
