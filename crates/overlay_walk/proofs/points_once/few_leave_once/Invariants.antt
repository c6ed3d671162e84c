-- No two steps so far leave one point.
use Rattle.std.proofs.Common.{◌≡◌, ◌<◌, ℕ, false}
use Rattle.overlay_geom.specs.Plane.{point_eq}
use Rattle.overlay_walk.specs.Places.{step_at}
use Rattle.overlay_walk.specs.Steps.{plain_steps}
use Rattle.overlay_walk.proofs.points_once.few_leave_once.Given as goal

abbrev pub invariant-loop-place : goal.invariant-loop-place
invariant-loop-place g l =
    let ss = plain_steps g.I.IntNumber.whole l.steps in
    (j k : ℕ) → j < k → k < l.place → point_eq (step_at ss j).from (step_at ss k).from ≡ false
