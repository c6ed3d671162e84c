-- The shapes so far are those at the places so far.
use Rattle.std.proofs.Common.{take}
use Rattle.overlay_geom.specs.Paths.{plain_shapes}
use Rattle.overlay_plane.specs.PlacedContours.{walks_at}
use Rattle.overlay_plane.specs.ShapeWindings.{points_of_shapes, AreKeptOrThinned}
use Rattle.overlay_walk.specs.GroupedContours.{plain_contours}
use Rattle.overlay_extract.specs.Places.{place_lists}
use Rattle.overlay_extract.proofs.assemble.assembled.Given as goal

abbrev pub invariant-loop-shape : goal.invariant-loop-shape
invariant-loop-shape g l =
    let whole = g.I.IntNumber.whole in
    AreKeptOrThinned l.keeps_points
    (points_of_shapes (walks_at (plain_contours whole l.contours) (place_lists (take l.shape-index l.places))))
    (plain_shapes whole l.shapes.items)
