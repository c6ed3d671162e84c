-- The strips of the edge's span so far have been searched, and the place looked at comes nearer to its end.
use Rattle.std.proofs.Common.{◌-◌, ◌≤◌, length}
use Rattle.overlay_geom.specs.Points.{plain_points}
use Rattle.overlay_order.specs.Content.{plain_edge}
use Rattle.overlay_arrange.proofs.StripSearches.{AreMetBefore, IsStripEnd}
use Rattle.overlay_arrange.proofs.snap.take_by_strips.Given as goal

abbrev pub invariant-loop-line : goal.invariant-loop-line
invariant-loop-line g l =
    let whole = g.I.IntNumber.whole in
    (l.at ≤ length l.hot)
    × IsStripEnd l.width (length (plain_points whole l.hot)) l.at
    × AreMetBefore (plain_points whole l.hot) (plain_edge whole g.C.EdgeCount.counts l.e)
    (plain_points whole l.strips) l.at (plain_points whole l.points.items)

abbrev pub decreases-loop-line : goal.decreases-loop-line
decreases-loop-line g l = length l.hot - l.at
