-- The sectors of the edges so far are found, and the place looked at comes nearer to the end.
use Rattle.std.proofs.Common.{◌-◌, length, map}
use Rattle.overlay_geom.specs.Plane.{in_plane}
use Rattle.overlay_geom.specs.Points.{plain_point}
use Rattle.overlay_geom.specs.Rules.{is_filled}
use Rattle.overlay_order.specs.Content.{plain_edges}
use Rattle.overlay_sectors.specs.Seen.{IsSeenUpTo}
use Rattle.overlay_sectors.proofs.located.sectors_seen.Given as goal

abbrev pub invariant-loop-at : goal.invariant-loop-at
invariant-loop-at g l =
    IsSeenUpTo (is_filled l.asked.fill_rule)
    (plain_edges g.I.IntNumber.whole g.C.EdgeCount.counts (map g.E.EdgeForm.meant l.asked.shape.edges.now))
    (in_plane (plain_point g.I.IntNumber.whole l.asked.p)) l.at l.seen

abbrev pub decreases-loop-at : goal.decreases-loop-at
decreases-loop-at g l = length l.asked.shape.edges.now - l.at
