-- The shapes so far are those of the ranges so far.
use Rattle.std.proofs.Common.{◌≡◌, take}
use Rattle.overlay_geom.specs.Flat.{shapes_in}
use Rattle.overlay_geom.specs.Paths.{plain_shapes}
use Rattle.overlay_geom.proofs.flat.shapes.shapes_of.Given as goal

abbrev pub invariant-loop-range : goal.invariant-loop-range
invariant-loop-range g l = plain_shapes g.I.IntNumber.whole l.shapes.items ≡ shapes_in g.I.IntNumber.whole l.points
    l.contours (take l.range-index l.ranges)
