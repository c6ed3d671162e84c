-- The larger end of a further edge.
use Rattle.std.proofs.Common.{ℤ, ap₂, ◌∙◌}
use Rattle.overlay_geom.specs.Points.{plain_point}
use Rattle.overlay_order.specs.Content.{plain_edge}
use Rattle.overlay_order.proofs.Appended.{next_mapped_behind}
use Rattle.overlay_graph.specs.Ends.{CountedEnd, plain_end, plain_ends, counted_stop}
use Rattle.overlay_graph.proofs.ReversedCounts.{widened}
use Rattle.overlay_graph.proofs.balance.push_stops.Goals as goal

pub loop-edge-preserved : goal.loop-edge-preserved
loop-edge-preserved g c =
    let whole = g.I.IntNumber.whole in
    let edge = c.edge-item.result in
    let stop : ℤ → ℤ → CountedEnd = λ s t. record { point = plain_point whole edge.b; subj = s; clip = t } in
    next_mapped_behind (plain_ends whole c.args.ends.now.items) (plain_end whole) counted_stop
    (plain_edge whole g.C.EdgeCount.counts) c.loop-edge.ends.items c.push.new.self.items
    _ c.args.edges.now c.loop-edge.edge-index edge c.loop-edge-test.true c.edge-item.is c.in_ok-push.ensures.items
    (ap₂ stop (widened c.subj.result c.from-subj.result c.subj.type_inv c.from-subj.ensures)
    (widened c.clip.result c.from-clip.result c.clip.type_inv c.from-clip.ensures)
    ∙ ap₂ stop c.subj.ensures c.clip.ensures)
    c.loop-edge.invariant
