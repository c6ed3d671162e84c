-- The contours so far are turned.
use Rattle.std.proofs.Common.{◌≡◌, reverse}
use Rattle.overlay_geom.specs.Paths.{paths_of_shape}
use Rattle.overlay_extract.proofs.ChangedLists.{changed}
use Rattle.overlay_extract.proofs.slicing.direction.turn_shape.Given as goal

abbrev pub invariant-loop-i : goal.invariant-loop-i
invariant-loop-i g l =
    let whole = g.I.IntNumber.whole in
    paths_of_shape whole l.shape.items ≡ changed reverse l.i (paths_of_shape whole l.initial.shape.items)
