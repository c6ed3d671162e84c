-- The number still to go, behind the paths of the shapes so far.
use Rattle.std.proofs.Common.{◌≡◌, ◌+◌, length, take}
use Rattle.overlay_geom.specs.Paths.{paths_of_shapes}
use Rattle.overlay_geom.proofs.resource.cursor.contour_at.Given as goal

abbrev pub invariant-loop-place : goal.invariant-loop-place
invariant-loop-place g l =
    let whole = g.I.IntNumber.whole in
    l.index ≡ length (paths_of_shapes whole (take l.place l.shapes)) + l.left
