-- The contours so far are those of the ranges so far.
use Rattle.std.proofs.Common.{◌≡◌, take}
use Rattle.overlay_geom.specs.Flat.{paths_in}
use Rattle.overlay_geom.specs.Paths.{paths_of_shape}
use Rattle.overlay_geom.proofs.flat.shapes.contours_of.Given as goal

abbrev pub invariant-loop-range : goal.invariant-loop-range
invariant-loop-range g l = paths_of_shape g.I.IntNumber.whole l.contours.items ≡ paths_in g.I.IntNumber.whole l.points
    (take l.range-index l.ranges)
