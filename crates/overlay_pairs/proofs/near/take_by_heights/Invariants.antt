-- The places of the edges so far that share a height are taken.
use Rattle.std.proofs.Common.{◌-◌, ◌≤◌}
use Rattle.overlay_order.specs.Content.{plain_edges}
use Rattle.overlay_pairs.specs.Extents.{plain_extent}
use Rattle.overlay_pairs.specs.Near.{AreNearHeights}
use Rattle.overlay_pairs.proofs.near.take_by_heights.Given as goal

abbrev pub invariant-loop-j : goal.invariant-loop-j
invariant-loop-j g l =
    (l.from ≤ l.j) × (l.j ≤ l.to)
    × AreNearHeights (plain_edges g.I.IntNumber.whole g.C.EdgeCount.counts l.edges)
    (plain_extent g.I.IntNumber.whole l.of) l.from l.j l.near.items

abbrev pub decreases-loop-j : goal.decreases-loop-j
decreases-loop-j g l = l.to - l.j
