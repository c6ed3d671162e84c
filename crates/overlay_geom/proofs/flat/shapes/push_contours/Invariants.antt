-- The contours so far are added.
use Rattle.std.proofs.Common.{take}
use Rattle.overlay_geom.specs.FlatShapes.{ArePathsAdded}
use Rattle.overlay_geom.specs.Paths.{paths_of_shape}
use Rattle.overlay_geom.proofs.flat.shapes.push_contours.Given as goal

abbrev pub invariant-loop-contour : goal.invariant-loop-contour
invariant-loop-contour g l =
    ArePathsAdded g.I.IntNumber.whole l.initial.points.items l.initial.ranges.items
    (paths_of_shape g.I.IntNumber.whole (take l.contour-index l.contours)) l.points.items l.ranges.items
