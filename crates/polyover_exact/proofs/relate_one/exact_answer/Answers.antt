-- What is not read, what the builder refuses, and what is told of the arrays.
use Rattle.std.proofs.lemmas.Result.{err_from_is_err_and}
use Rattle.overlay_geom.specs.Flat.{paths_in}
use Rattle.polyover_calls.specs.Given.{contours_of}
use Rattle.polyover_exact.proofs.ToldOne.{contours_untold, relation_refused, answer_told}
use Rattle.polyover_exact.proofs.relate_one.exact_answer.Goals as goal

pub returns-in_err-read : goal.returns-in_err-read
returns-in_err-read g c =
    let e = err_from_is_err_and c.from_residual-in_err-read.result c.from_residual-in_err-read.ensures.1 in
    rw (e.1, e.2) (contours_untold g.I.IntNumber.whole g.I.IntNumber.limit c.args.asked.now.relation
    c.args.asked.now.fill
    (contours_of c.args.asked.now.subject.coordinates.now c.args.asked.now.subject.ends.now)
    (contours_of c.args.asked.now.clip.coordinates.now c.args.asked.now.clip.ends.now) c.in_ok-relation.relation
    c.in_err-read.field-0.0 c.in_ok-fill.ensures.0 c.in_ok-relation.ensures c.in_err-read.ensures.err)

pub returns-in_err-holds : goal.returns-in_err-holds
returns-in_err-holds g c =
    let whole = g.I.IntNumber.whole in
    let e = err_from_is_err_and c.from_residual-in_err-holds.result c.from_residual-in_err-holds.ensures.1 in
    let read = c.in_ok-read.ensures in
    rw (e.1, e.2) (relation_refused whole g.I.IntNumber.limit c.args.asked.now.relation c.args.asked.now.fill
    (contours_of c.args.asked.now.subject.coordinates.now c.args.asked.now.subject.ends.now)
    (contours_of c.args.asked.now.clip.coordinates.now c.args.asked.now.clip.ends.now)
    c.in_err-holds.field-0.0 c.in_ok-relation.relation
    (paths_in whole c.in_ok-read.read.first.points.items c.in_ok-read.read.first.ranges.items)
    (paths_in whole c.in_ok-read.read.second.points.items c.in_ok-read.read.second.ranges.items)
    c.in_ok-fill.ensures.0 c.in_ok-relation.ensures read.first_given read.second_given read.first read.second
    c.in_err-holds.ensures)

pub returns : goal.returns
returns g c =
    let whole = g.I.IntNumber.whole in
    let read = c.in_ok-read.ensures in
    answer_told whole g.I.IntNumber.limit c.args.asked.now.relation c.args.asked.now.fill
    (contours_of c.args.asked.now.subject.coordinates.now c.args.asked.now.subject.ends.now)
    (contours_of c.args.asked.now.clip.coordinates.now c.args.asked.now.clip.ends.now) c.in_ok-fill.fill
    c.in_ok-relation.relation
    (paths_in whole c.in_ok-read.read.first.points.items c.in_ok-read.read.first.ranges.items)
    (paths_in whole c.in_ok-read.read.second.points.items c.in_ok-read.read.second.ranges.items)
    c.in_ok-holds.holds c.bit_if.result c.in_ok-fill.ensures.0 c.in_ok-relation.ensures read.first_given
    read.second_given c.in_ok-fill.ensures.1 read.first read.second c.in_ok-holds.ensures c.bit_if.ensures.value
