-- The points from here on are added.
use Rattle.std.proofs.Common.{◌≤◌}
use Rattle.overlay_geom.specs.Points.{plain_points}
use Rattle.overlay_arrange.specs.PixelRuns.{AddsPoints}
use Rattle.overlay_arrange.proofs.pixel_runs.push_downwards.Given as goal

abbrev pub invariant-loop-k : goal.invariant-loop-k
invariant-loop-k g l =
    let whole = g.I.IntNumber.whole in
    (l.from ≤ l.k) × (l.k ≤ l.to)
    × AddsPoints (plain_points whole l.strips) l.k l.to (plain_points whole l.initial.points.items)
    (plain_points whole l.points.items)

abbrev pub decreases-loop-k : goal.decreases-loop-k
decreases-loop-k g l = l.k
