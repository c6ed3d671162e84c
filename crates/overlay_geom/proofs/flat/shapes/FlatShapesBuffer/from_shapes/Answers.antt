-- A new buffer has no shape, and each push adds a shape.
use Rattle.std.proofs.Common.{ap, sym, subst, ◌∙◌, arith}
use Rattle.std.proofs.lemmas.Grind.{common_steps}
use Rattle.overlay_geom.specs.Flat.{shapes_in}
use Rattle.overlay_geom.specs.FlatShapes.{AreShapesPacked}
use Rattle.overlay_geom.specs.Paths.{paths_of_shape}
use Rattle.overlay_geom.proofs.FlatShapes.{no_shapes_packed, shape_more, shapes_added, packed_added}
use Rattle.overlay_geom.proofs.flat.shapes.FlatShapesBuffer.from_shapes.Goals as goal

pub loop-shape-init : goal.loop-shape-init
loop-shape-init g c =
    let b = c.in_ok-buffer.buffer in
    let none = c.in_ok-buffer.ensures in (
      ap (shapes_in g.I.IntNumber.whole b.points.items b.contour_ranges.items) none.shape_ranges,
      no_shapes_packed b.points.items b.contour_ranges.items b.shape_ranges.items none.points none.contour_ranges
          none.shape_ranges,
    )

pub loop-shape-preserved : goal.loop-shape-preserved
loop-shape-preserved g c =
    let whole = g.I.IntNumber.whole in
    let b = c.loop-shape.buffer in
    let new = c.push_shape.new.self in
    let is = c.in_ok-push_shape.ensures in
    let packed = c.loop-shape.invariant.1 in
    let shape = paths_of_shape whole c.deref.result.now in (
      ap (shapes_in whole new.points.items new.contour_ranges.items) is.shape
          ∙ shapes_added whole b.points.items new.points.items b.contour_ranges.items new.contour_ranges.items
          b.shape_ranges.items shape is.contours packed
          ∙ shape_more whole c.args.shapes.now c.loop-shape.shape-index c.shape-item.result c.loop-shape-test.true
          c.shape-item.is c.deref.result.now c.deref.ensures.value _ c.loop-shape.invariant.0,
      subst (AreShapesPacked new.points.items new.contour_ranges.items) (sym is.shape)
          (packed_added whole b.points.items new.points.items b.contour_ranges.items new.contour_ranges.items
          b.shape_ranges.items shape is.contours packed),
    )

pub returns-clause-shapes : goal.returns-clause-shapes
returns-clause-shapes g c = grind (arith, common_steps)

pub returns-clause-packed : goal.returns-clause-packed
returns-clause-packed g c = grind (arith, common_steps)
