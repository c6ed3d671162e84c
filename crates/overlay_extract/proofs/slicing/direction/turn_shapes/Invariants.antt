-- The shapes so far are turned.
use Rattle.std.proofs.Common.{◌≡◌, map, reverse}
use Rattle.overlay_geom.specs.Paths.{plain_shapes}
use Rattle.overlay_extract.proofs.ChangedLists.{changed}
use Rattle.overlay_extract.proofs.slicing.direction.turn_shapes.Given as goal

abbrev pub invariant-loop-i : goal.invariant-loop-i
invariant-loop-i g l =
    let whole = g.I.IntNumber.whole in
    plain_shapes whole l.shapes.items ≡ changed (map reverse) l.i (plain_shapes whole l.initial.shapes.items)
