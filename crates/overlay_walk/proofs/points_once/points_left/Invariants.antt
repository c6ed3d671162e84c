-- The points so far are those that the steps so far leave, and there is room for the others.
use Rattle.std.proofs.Common.{◌≡◌, ◌≤◌, take, length, vec_len, vec_capacity}
use Rattle.overlay_geom.specs.Plane.{points_of}
use Rattle.overlay_geom.specs.Points.{plain_points}
use Rattle.overlay_walk.specs.Steps.{plain_steps}
use Rattle.overlay_walk.proofs.points_once.points_left.Given as goal

abbrev pub invariant-loop-step : goal.invariant-loop-step
invariant-loop-step g l = (plain_points g.I.IntNumber.whole l.points.items
    ≡ points_of (plain_steps g.I.IntNumber.whole (take l.step-index l.steps)))
    × (vec_len l.points ≡ l.step-index) × (length l.steps ≤ vec_capacity l.points)
