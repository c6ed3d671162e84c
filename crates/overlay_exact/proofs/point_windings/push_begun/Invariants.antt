-- The edges so far are live.
use Rattle.std.proofs.Common.{◌-◌, ◌≤◌, length}
use Rattle.overlay_order.specs.Content.{plain_edges}
use Rattle.overlay_exact.specs.PointWindings.{AreLive}
use Rattle.overlay_exact.proofs.point_windings.push_begun.Given as goal

abbrev pub invariant-loop-end : goal.invariant-loop-end
invariant-loop-end g l = record {
  within : l.end ≤ length l.edges;
  live : AreLive g.I.IntNumber.limit (plain_edges g.I.IntNumber.whole g.C.EdgeCount.counts l.edges) l.end
      (g.I.IntNumber.whole l.x) (plain_edges g.I.IntNumber.whole g.C.EdgeCount.counts l.live.items);
}

abbrev pub decreases-loop-end : goal.decreases-loop-end
decreases-loop-end g l = length l.edges - l.end
