-- The contours so far are in the shape.
use Rattle.std.proofs.Common.{◌≡◌, take}
use Rattle.overlay_geom.specs.Flat.{paths_in}
use Rattle.overlay_geom.specs.Paths.{paths_of_shape}
use Rattle.polyover_calls.proofs.shape.shape_of.Given as goal

abbrev pub invariant-loop-index : goal.invariant-loop-index
invariant-loop-index g l =
    let whole = g.I.IntNumber.whole in
    paths_of_shape whole l.shape.items
    ≡ take l.index (paths_in whole l.contours.points.items l.contours.ranges.items)
