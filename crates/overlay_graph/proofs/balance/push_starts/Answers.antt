-- The smaller end of a further edge.
use Rattle.std.proofs.Common.{ℤ, neg_ℤ, ap₂, ◌∙◌}
use Rattle.overlay_geom.specs.Points.{plain_point}
use Rattle.overlay_order.specs.Content.{plain_edge}
use Rattle.overlay_order.proofs.Appended.{next_mapped_behind}
use Rattle.overlay_graph.specs.Ends.{CountedEnd, plain_end, plain_ends, counted_start}
use Rattle.overlay_graph.proofs.ReversedCounts.{reversed_fits, reversed_is}
use Rattle.overlay_graph.proofs.balance.push_starts.Goals as goal

pub overflow_sub-subj : goal.overflow_sub-subj
overflow_sub-subj g c = reversed_fits c.subj.result c.from-subj.result c.subj.type_inv c.from-subj.ensures

pub overflow_sub-clip : goal.overflow_sub-clip
overflow_sub-clip g c = reversed_fits c.clip.result c.from-clip.result c.clip.type_inv c.from-clip.ensures

pub loop-edge-preserved : goal.loop-edge-preserved
loop-edge-preserved g c =
    let whole = g.I.IntNumber.whole in
    let edge = c.edge-item.result in
    let start : ℤ → ℤ → CountedEnd = λ s t. record { point = plain_point whole edge.a; subj = s; clip = t } in
    let back : ℤ → ℤ → CountedEnd = λ s t. start (neg_ℤ s) (neg_ℤ t) in
    next_mapped_behind (plain_ends whole c.args.ends.now.items) (plain_end whole) counted_start
    (plain_edge whole g.C.EdgeCount.counts) c.loop-edge.ends.items c.push.new.self.items
    _ c.args.edges.now c.loop-edge.edge-index edge c.loop-edge-test.true c.edge-item.is c.in_ok-push.ensures.items
    (ap₂ start (reversed_is c.subj.result c.from-subj.result c.subj.type_inv c.from-subj.ensures)
    (reversed_is c.clip.result c.from-clip.result c.clip.type_inv c.from-clip.ensures)
    ∙ ap₂ back c.subj.ensures c.clip.ensures)
    c.loop-edge.invariant
