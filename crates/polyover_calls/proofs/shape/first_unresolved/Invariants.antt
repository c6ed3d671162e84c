-- The contours so far are resolved.
use Rattle.std.proofs.Common.{All, take}
use Rattle.overlay_geom.specs.Flat.{paths_in}
use Rattle.overlay_geom.specs.Resolved.{IsResolved}
use Rattle.polyover_calls.proofs.shape.first_unresolved.Given as goal

abbrev pub invariant-loop-index : goal.invariant-loop-index
invariant-loop-index g l =
    All IsResolved (take l.index (paths_in g.I.IntNumber.whole l.contours.points.items l.contours.ranges.items))
