-- One relation is told of an arrangement of the contours.
use Rattle.std.specs.Prelude.{Ok, Err}
use Rattle.std.proofs.lemmas.Result.{err_from_is_err_and}
use Rattle.overlay_plane.specs.Predicates.{Intersects, InteriorsIntersect, Touches, PointIntersects, IsWithin, Covers}
use Rattle.i_overlay.proofs.Relations.{disjoint_of_paths}
use Rattle.polyover_calls.proofs.RelatedOne.{relation_or_refused}
use Rattle.polyover_calls.proofs.relate_one.holds_between.Goals as goal

pub returns-in-Intersects : goal.returns-in-Intersects
returns-in-Intersects g c =
    let made = c.in_ok-overlay.ensures in
    let is = c.in-Intersects.is in
    rw is (relation_or_refused c.args.solver g.I.IntNumber.limit c.args.fill _ Intersects c.intersects.result
    c.in_ok-overlay.overlay c.intersects.new.self made.ok made.made c.intersects.ensures)

pub returns-in-InteriorsIntersect : goal.returns-in-InteriorsIntersect
returns-in-InteriorsIntersect g c =
    let made = c.in_ok-overlay.ensures in
    let is = c.in-InteriorsIntersect.is in
    rw is (relation_or_refused c.args.solver g.I.IntNumber.limit c.args.fill _ InteriorsIntersect
    c.interiors_intersect.result c.in_ok-overlay.overlay c.interiors_intersect.new.self made.ok made.made
    c.interiors_intersect.ensures)

pub returns-in-Touches : goal.returns-in-Touches
returns-in-Touches g c =
    let made = c.in_ok-overlay.ensures in
    let is = c.in-Touches.is in
    rw is (relation_or_refused c.args.solver g.I.IntNumber.limit c.args.fill _ Touches c.touches.result
    c.in_ok-overlay.overlay c.touches.new.self made.ok made.made c.touches.ensures)

pub returns-in-PointIntersects : goal.returns-in-PointIntersects
returns-in-PointIntersects g c =
    let made = c.in_ok-overlay.ensures in
    let is = c.in-PointIntersects.is in
    rw is (relation_or_refused c.args.solver g.I.IntNumber.limit c.args.fill _ PointIntersects c.point_intersects.result
    c.in_ok-overlay.overlay c.point_intersects.new.self made.ok made.made c.point_intersects.ensures)

pub returns-in-Within : goal.returns-in-Within
returns-in-Within g c =
    let made = c.in_ok-overlay.ensures in
    let is = c.in-Within.is in
    rw is (relation_or_refused c.args.solver g.I.IntNumber.limit c.args.fill _ IsWithin c.within.result
    c.in_ok-overlay.overlay c.within.new.self made.ok made.made c.within.ensures)

pub returns : goal.returns
returns g c =
    let made = c.in_ok-overlay.ensures in
    let is = c.in-Covers.is in
    rw is (relation_or_refused c.args.solver g.I.IntNumber.limit c.args.fill _ Covers c.covers.result
    c.in_ok-overlay.overlay c.covers.new.self made.ok made.made c.covers.ensures)

pub returns-in_err-meets-in-Disjoint : goal.returns-in_err-meets-in-Disjoint
returns-in_err-meets-in-Disjoint g c =
    let made = c.in_ok-overlay.ensures in
    let e = err_from_is_err_and c.from_residual-in_err-meets-in-Disjoint.result
    c.from_residual-in_err-meets-in-Disjoint.ensures.1 in
    rw (e.1, e.2) (relation_or_refused c.args.solver g.I.IntNumber.limit c.args.fill _ Intersects
    (Err c.in_err-meets-in-Disjoint.field-0.0) c.in_ok-overlay.overlay c.intersects-in-Disjoint.new.self made.ok
    made.made c.in_err-meets-in-Disjoint.ensures)

pub returns-in-Disjoint : goal.returns-in-Disjoint
returns-in-Disjoint g c =
    let made = c.in_ok-overlay.ensures in
    let is = c.in-Disjoint.is in
    rw is (disjoint_of_paths c.args.solver c.args.fill _ c.in_ok-meets-in-Disjoint.meets
    (relation_or_refused c.args.solver g.I.IntNumber.limit c.args.fill _ Intersects (Ok c.in_ok-meets-in-Disjoint.meets)
    c.in_ok-overlay.overlay c.intersects-in-Disjoint.new.self made.ok made.made c.in_ok-meets-in-Disjoint.ensures))
