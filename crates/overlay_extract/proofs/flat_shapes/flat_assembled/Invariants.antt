-- The shapes so far are those at the places so far, and are packed.
use Rattle.std.proofs.Common.{take}
use Rattle.overlay_geom.specs.Flat.{shapes_in}
use Rattle.overlay_geom.specs.FlatShapes.{AreShapesPacked}
use Rattle.overlay_plane.specs.PlacedContours.{walks_at}
use Rattle.overlay_plane.specs.ShapeWindings.{points_of_shapes, AreKeptOrThinned}
use Rattle.overlay_walk.specs.GroupedContours.{plain_contours}
use Rattle.overlay_extract.specs.Places.{place_lists}
use Rattle.overlay_extract.proofs.flat_shapes.flat_assembled.Given as goal

abbrev pub invariant-loop-shape : goal.invariant-loop-shape
invariant-loop-shape g l =
    let whole = g.I.IntNumber.whole in
    record {
      shown : AreKeptOrThinned l.keeps_points
          (points_of_shapes (walks_at (plain_contours whole l.contours) (place_lists (take l.shape-index l.places))))
          (shapes_in whole l.flat.points.items l.flat.contour_ranges.items l.flat.shape_ranges.items);
      packed : AreShapesPacked l.flat.points.items l.flat.contour_ranges.items l.flat.shape_ranges.items;
    }
