-- No contour is added at first, and each turn adds the next.
use Rattle.std.proofs.Common.{arith}
use Rattle.std.proofs.lemmas.Grind.{common_steps}
use Rattle.overlay_geom.proofs.FlatShapes.{none_added, contour_added}
use Rattle.overlay_geom.proofs.flat.shapes.push_contours.Goals as goal

pub loop-contour-init : goal.loop-contour-init
loop-contour-init g c = none_added g.I.IntNumber.whole c.args.points.now.items c.args.ranges.now.items

pub loop-contour-preserved : goal.loop-contour-preserved
loop-contour-preserved g c =
    contour_added g.I.IntNumber.whole c.args.points.now.items c.args.ranges.now.items c.args.contours.now
    c.loop-contour.contour-index c.contour-item.result c.loop-contour-test.true c.contour-item.is c.deref.result.now
    c.deref.ensures.value c.loop-contour.points.items c.push_contour.new.points.items c.loop-contour.ranges.items
    c.push_contour.new.ranges.items c.in_ok-push_contour.ensures.points c.in_ok-push_contour.ensures.ranges
    c.loop-contour.invariant

pub returns : goal.returns
returns g c = record {
  added = grind (arith, common_steps);
}
