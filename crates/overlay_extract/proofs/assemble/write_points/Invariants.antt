-- The points so far are those at which the steps so far begin, and there is room for the others.
use Rattle.std.proofs.Common.{◌≡◌, ◌≤◌, take, length, vec_len, vec_capacity}
use Rattle.overlay_geom.specs.Plane.{points_of}
use Rattle.overlay_geom.specs.Points.{plain_points}
use Rattle.overlay_walk.specs.Steps.{plain_steps}
use Rattle.overlay_extract.proofs.assemble.write_points.Given as goal

abbrev pub invariant-loop-step : goal.invariant-loop-step
invariant-loop-step g l = (plain_points g.I.IntNumber.whole l.points.items ≡ points_of
    (plain_steps g.I.IntNumber.whole (take l.step-index l.walk)))
    × (vec_len l.points ≡ l.step-index) × (length l.walk ≤ vec_capacity l.points)
