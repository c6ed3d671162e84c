-- The points so far lie left of x, and the place looked at comes nearer to their end.
use Rattle.std.proofs.Common.{◌-◌, length}
use Rattle.overlay_geom.specs.Points.{plain_points}
use Rattle.overlay_arrange.specs.HotPoints.{AreLeftBefore}
use Rattle.overlay_arrange.proofs.snap.count_left_of.Given as goal

abbrev pub invariant-loop-at : goal.invariant-loop-at
invariant-loop-at g l = AreLeftBefore (plain_points g.I.IntNumber.whole l.hot) (g.I.IntNumber.whole l.x) l.at

abbrev pub decreases-loop-at : goal.decreases-loop-at
decreases-loop-at g l = length l.hot - l.at
