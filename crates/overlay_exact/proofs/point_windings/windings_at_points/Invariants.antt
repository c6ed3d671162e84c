-- The live edges tell the windings at each later point, and those so far are found.
use Rattle.std.proofs.Common.{◌≡◌, ◌<◌, ◌≤◌, ℕ, length, map, take, get_or}
use Rattle.overlay_geom.specs.Plane.{Point}
use Rattle.overlay_geom.specs.Points.{plain_point}
use Rattle.overlay_order.specs.Content.{plain_edges}
use Rattle.overlay_exact.specs.PointWindings.{point_windings, AreLive}
use Rattle.overlay_exact.proofs.point_windings.windings_at_points.Given as goal

abbrev pub invariant-loop-v : goal.invariant-loop-v
invariant-loop-v g l = record {
  within : l.begun ≤ length l.edges;
  live : (k : ℕ) (d : Point) → l.v-index ≤ k → k < length l.points →
      AreLive g.I.IntNumber.limit (plain_edges g.I.IntNumber.whole g.C.EdgeCount.counts l.edges) l.begun
      (get_or (map (plain_point g.I.IntNumber.whole) l.points) k d).x
      (plain_edges g.I.IntNumber.whole g.C.EdgeCount.counts l.live.items);
  found : l.found.items ≡ map (point_windings (plain_edges g.I.IntNumber.whole g.C.EdgeCount.counts l.edges))
      (map (plain_point g.I.IntNumber.whole) (take l.v-index l.points));
}
