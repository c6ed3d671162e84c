-- The shapes so far stand in the buffer, packed.
use Rattle.std.proofs.Common.{◌≡◌, take}
use Rattle.overlay_geom.specs.Flat.{shapes_in}
use Rattle.overlay_geom.specs.FlatShapes.{AreShapesPacked}
use Rattle.overlay_geom.specs.Paths.{plain_shapes}
use Rattle.overlay_geom.proofs.flat.shapes.FlatShapesBuffer.from_shapes.Given as goal

abbrev pub invariant-loop-shape : goal.invariant-loop-shape
invariant-loop-shape g l =
    let b = l.buffer in
    let whole = g.I.IntNumber.whole in
    (shapes_in whole b.points.items b.contour_ranges.items b.shape_ranges.items
    ≡ plain_shapes whole (take l.shape-index l.shapes))
    × AreShapesPacked b.points.items b.contour_ranges.items b.shape_ranges.items
