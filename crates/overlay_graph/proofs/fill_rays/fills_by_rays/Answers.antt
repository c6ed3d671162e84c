-- The next edge is held, and its fill bits come after those of the edges so far.
use Rattle.overlay_geom.specs.Rules.{fill_bits}
use Rattle.overlay_geom.proofs.Mapped.{All-mapped_at}
use Rattle.overlay_order.specs.Content.{plain_edge, plain_edges, IsHeld}
use Rattle.overlay_order.proofs.Appended.{next_listed}
use Rattle.overlay_graph.proofs.fill_rays.fills_by_rays.Goals as goal

pub fill_of-requires-clause-held : goal.fill_of-requires-clause-held
fill_of-requires-clause-held g c =
    All-mapped_at (IsHeld g.I.IntNumber.limit) (plain_edge g.I.IntNumber.whole g.C.EdgeCount.counts) c.args.edges.now
    c.loop-edge.edge-index c.edge-item.result
    c.loop-edge-test.true c.edge-item.is c.requires.content.held

pub loop-edge-preserved : goal.loop-edge-preserved
loop-edge-preserved g c =
    let whole = g.I.IntNumber.whole in
    let counts = g.C.EdgeCount.counts in
    next_listed (fill_bits c.args.rule (plain_edges whole counts c.args.edges.now)) (plain_edge whole counts)
    c.loop-edge.fills.items _ c.fill_of.result
    c.args.edges.now c.loop-edge.edge-index c.edge-item.result c.loop-edge-test.true c.edge-item.is
    c.in_ok-push.ensures.items c.fill_of.ensures
    c.loop-edge.invariant
