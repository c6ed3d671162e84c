-- Those before the lower place are passed above.
use Rattle.std.proofs.Common.{◌-◌, ◌≤◌}
use Rattle.overlay_geom.specs.Points.{plain_points}
use Rattle.overlay_order.specs.Content.{plain_edge}
use Rattle.overlay_arrange.specs.PixelRuns.{ArePassedAbove}
use Rattle.overlay_arrange.proofs.pixel_runs.place_not_below.Given as goal

abbrev pub invariant-loop-low : goal.invariant-loop-low
invariant-loop-low g l =
    let whole = g.I.IntNumber.whole in
    (l.strip.from ≤ l.low) × (l.low ≤ l.high) × (l.high ≤ l.strip.to)
    × ArePassedAbove (plain_edge whole g.C.EdgeCount.counts l.e) (whole l.x) (plain_points whole l.strip.points.now)
    l.strip.from l.low

abbrev pub decreases-loop-low : goal.decreases-loop-low
decreases-loop-low g l = l.high - l.low
