-- The steps back of those so far.
use Rattle.std.proofs.Common.{◌≡◌, map, take}
use Rattle.overlay_geom.specs.Plane.{reversed_step}
use Rattle.overlay_walk.specs.Steps.{plain_steps}
use Rattle.overlay_extract.proofs.slicing.loops.walked_back.Given as goal

abbrev pub invariant-loop-place : goal.invariant-loop-place
invariant-loop-place g l =
    let whole = g.I.IntNumber.whole in
    plain_steps whole l.back.items ≡ map reversed_step (plain_steps whole (take l.place l.walk))
