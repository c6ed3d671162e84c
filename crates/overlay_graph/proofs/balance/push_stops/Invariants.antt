-- The larger ends of the edges so far are behind the earlier ends.
use Rattle.std.proofs.Common.{◌≡◌, ◌++◌, map, take}
use Rattle.overlay_order.specs.Content.{plain_edges}
use Rattle.overlay_graph.specs.Ends.{plain_ends, counted_stop}
use Rattle.overlay_graph.proofs.balance.push_stops.Given as goal

abbrev pub invariant-loop-edge : goal.invariant-loop-edge
invariant-loop-edge g l =
    let whole = g.I.IntNumber.whole in
    plain_ends whole l.ends.items ≡ plain_ends whole l.initial.ends.items
    ++ map counted_stop (plain_edges whole g.C.EdgeCount.counts (take l.edge-index l.edges))
