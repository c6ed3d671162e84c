-- The filled sides of the edges so far are listed.
use Rattle.std.proofs.Common.{◌≡◌, map, take}
use Rattle.overlay_order.specs.Content.{plain_edges}
use Rattle.overlay_geom.specs.Rules.{fill_bits}
use Rattle.overlay_graph.proofs.fill_rays.fills_by_rays.Given as goal

abbrev pub invariant-loop-edge : goal.invariant-loop-edge
invariant-loop-edge g l = l.fills.items ≡ map
    (fill_bits l.rule (plain_edges g.I.IntNumber.whole g.C.EdgeCount.counts l.edges))
    (plain_edges g.I.IntNumber.whole g.C.EdgeCount.counts (take l.edge-index l.edges))
