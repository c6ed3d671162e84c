-- The new builder tells one relation of the paths that were added to it.
use Rattle.polyover_calls.specs.declared.relation.Relation.TheVariants as relation
use Rattle.polyover_exact.proofs.ToldOne.{told_of_one}
use Rattle.polyover_exact.proofs.relate_one.holds_between.Goals as goal

pub returns-in-Intersects : goal.returns-in-Intersects
returns-in-Intersects g c =
    let made = c.in_ok-predicates.ensures in
    let is = c.in-Intersects.is in
    rw is (told_of_one relation.Intersects c.args.fill _ c.in_ok-predicates.predicates c.intersects.result
    made.ok made.made c.intersects.ensures)

pub returns-in-InteriorsIntersect : goal.returns-in-InteriorsIntersect
returns-in-InteriorsIntersect g c =
    let made = c.in_ok-predicates.ensures in
    let is = c.in-InteriorsIntersect.is in
    rw is (told_of_one relation.InteriorsIntersect c.args.fill _ c.in_ok-predicates.predicates
    c.interiors_intersect.result made.ok made.made c.interiors_intersect.ensures)

pub returns-in-Touches : goal.returns-in-Touches
returns-in-Touches g c =
    let made = c.in_ok-predicates.ensures in
    let is = c.in-Touches.is in
    rw is (told_of_one relation.Touches c.args.fill _ c.in_ok-predicates.predicates c.touches.result
    made.ok made.made c.touches.ensures)

pub returns-in-PointIntersects : goal.returns-in-PointIntersects
returns-in-PointIntersects g c =
    let made = c.in_ok-predicates.ensures in
    let is = c.in-PointIntersects.is in
    rw is (told_of_one relation.PointIntersects c.args.fill _ c.in_ok-predicates.predicates c.point_intersects.result
    made.ok made.made c.point_intersects.ensures)

pub returns-in-Within : goal.returns-in-Within
returns-in-Within g c =
    let made = c.in_ok-predicates.ensures in
    let is = c.in-Within.is in
    rw is (told_of_one relation.Within c.args.fill _ c.in_ok-predicates.predicates c.within.result
    made.ok made.made c.within.ensures)

pub returns-in-Disjoint : goal.returns-in-Disjoint
returns-in-Disjoint g c =
    let made = c.in_ok-predicates.ensures in
    let is = c.in-Disjoint.is in
    rw is (told_of_one relation.Disjoint c.args.fill _ c.in_ok-predicates.predicates c.disjoint.result
    made.ok made.made c.disjoint.ensures)

pub returns : goal.returns
returns g c =
    let made = c.in_ok-predicates.ensures in
    let is = c.in-Covers.is in
    rw is (told_of_one relation.Covers c.args.fill _ c.in_ok-predicates.predicates c.covers.result
    made.ok made.made c.covers.ensures)
