-- The smaller ends of the edges so far stand behind what stood before.
use Rattle.std.proofs.Common.{◌≡◌, ◌++◌, map, take}
use Rattle.overlay_geom.specs.Points.{plain_points}
use Rattle.overlay_geom.specs.Edges.{CountedEdge}
use Rattle.overlay_order.specs.Content.{plain_edges}
use Rattle.overlay_arrange.proofs.hot.push_starts.Given as goal

abbrev pub invariant-loop-i : goal.invariant-loop-i
invariant-loop-i g l =
    let whole = g.I.IntNumber.whole in
    plain_points whole l.points.items ≡ plain_points whole l.initial.points.items
    ++ map (λ (e : CountedEdge). e.a) (plain_edges whole g.C.EdgeCount.counts (take l.i l.edges))
