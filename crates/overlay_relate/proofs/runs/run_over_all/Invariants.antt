-- The run is over the contours so far.
use Rattle.std.proofs.Common.{take}
use Rattle.overlay_geom.specs.Paths.{paths_of_shape}
use Rattle.overlay_geom.specs.Points.{plain_points}
use Rattle.overlay_relate.specs.Runs.{IsRunOver}
use Rattle.overlay_relate.proofs.runs.run_over_all.Given as goal

abbrev pub invariant-loop-contour : goal.invariant-loop-contour
invariant-loop-contour g l =
    let whole = g.I.IntNumber.whole in
    IsRunOver (paths_of_shape whole (take l.contour-index l.contours)) (plain_points whole l.points) l.run.0 l.run.1
