-- No step so far leaves the point.
use Rattle.std.proofs.Common.{◌≡◌, ◌<◌, ℕ, false}
use Rattle.overlay_geom.specs.Plane.{point_eq}
use Rattle.overlay_walk.specs.Places.{step_at}
use Rattle.overlay_walk.specs.Steps.{plain_steps}
use Rattle.overlay_walk.proofs.points_once.is_left_before.Given as goal

abbrev pub invariant-loop-k : goal.invariant-loop-k
invariant-loop-k g l =
    let ss = plain_steps g.I.IntNumber.whole l.fn.steps in
    (j : ℕ) → j < l.k → point_eq (step_at ss j).from (step_at ss l.fn.place).from ≡ false
