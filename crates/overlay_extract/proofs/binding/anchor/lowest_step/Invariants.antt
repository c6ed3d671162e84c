-- None of the edges so far is before that of the step found.
use Rattle.std.proofs.Common.{take, map, All, Contains}
use Rattle.overlay_geom.specs.Plane.{edge_of}
use Rattle.overlay_walk.specs.Steps.{plain_step, plain_steps}
use Rattle.overlay_extract.proofs.AnchorsFound.{NotBefore}
use Rattle.overlay_extract.proofs.binding.anchor.lowest_step.Given as goal

abbrev pub invariant-loop-i : goal.invariant-loop-i
invariant-loop-i g l =
    let whole = g.I.IntNumber.whole in
    Contains (plain_steps whole l.walk) (plain_step whole l.lowest)
    × All (NotBefore (edge_of (plain_step whole l.lowest))) (map (plain_step whole) (take l.i l.walk))
