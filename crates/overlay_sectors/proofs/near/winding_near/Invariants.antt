-- The winding so far is that of the edges so far, and the place looked at comes nearer to the end.
use Rattle.std.proofs.Common.{◌≡◌, ◌-◌, length, map, take}
use Rattle.overlay_geom.specs.Edges.{subj_of}
use Rattle.overlay_geom.specs.Plane.{in_plane}
use Rattle.overlay_geom.specs.Points.{plain_point}
use Rattle.overlay_order.specs.Content.{plain_edges}
use Rattle.overlay_sectors.specs.Rays.{plain_ray}
use Rattle.overlay_sectors.specs.Sectors.{is_low, winding_near}
use Rattle.overlay_sectors.proofs.near.winding_near.Given as goal

abbrev pub invariant-loop-at : goal.invariant-loop-at
invariant-loop-at g l =
    l.counted.sum ≡ winding_near l.flank subj_of
    (take l.at (plain_edges g.I.IntNumber.whole g.C.EdgeCount.counts (map g.E.EdgeForm.meant l.shape.edges.now)))
    (in_plane (plain_point g.I.IntNumber.whole l.p)) (is_low l.flank (plain_ray g.I.IntNumber.whole l.ray))

abbrev pub decreases-loop-at : goal.decreases-loop-at
decreases-loop-at g l = length l.shape.edges.now - l.at
