-- The sums so far are the windings by the edges so far, and each edge adds at most 2^32.
use Rattle.std.proofs.Common.{◌*◌, take}
use Rattle.overlay_geom.specs.Plane.{in_plane}
use Rattle.overlay_geom.specs.Points.{plain_point}
use Rattle.overlay_order.specs.Content.{plain_edges}
use Rattle.overlay_given.specs.Beside.{IsNear}
use Rattle.overlay_given.proofs.StartSums.{WindTwice}
use Rattle.overlay_given.proofs.start.windings_at_start.Given as goal

abbrev pub invariant-loop-f : goal.invariant-loop-f
invariant-loop-f g l = record {
  winds : WindTwice (plain_edges g.I.IntNumber.whole g.C.EdgeCount.counts (take l.f-index l.edges))
      (in_plane (plain_point g.I.IntNumber.whole l.edge.a)) l.sum;
  near : IsNear (l.f-index * 4294967296) l.sum;
}
