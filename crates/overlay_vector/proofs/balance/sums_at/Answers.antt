-- One edge more, and the sums stay within the weight.
use Rattle.overlay_geom.specs.Edges.{subj_of, clip_of}
use Rattle.overlay_geom.specs.Points.{plain_point}
use Rattle.overlay_geom.proofs.WindingSums.{subj_weighed, clip_weighed}
use Rattle.overlay_order.specs.Content.{plain_edge}
use Rattle.overlay_vector.proofs.EnteringSums.{entering_front, entering_more}
use Rattle.overlay_vector.proofs.balance.sums_at.Goals as goal

pub with_edge-sums-requires-clause-subj : goal.with_edge-sums-requires-clause-subj
with_edge-sums-requires-clause-subj g c =
    entering_front subj_of subj_weighed (plain_edge g.I.IntNumber.whole g.C.EdgeCount.counts) c.args.edges.now
    c.loop-edge.edge-index (plain_point g.I.IntNumber.whole c.args.point) 2147483648 c.loop-edge.sums.subj
    c.requires.light c.loop-edge.invariant.subj

pub with_edge-sums-requires-clause-clip : goal.with_edge-sums-requires-clause-clip
with_edge-sums-requires-clause-clip g c =
    entering_front clip_of clip_weighed (plain_edge g.I.IntNumber.whole g.C.EdgeCount.counts) c.args.edges.now
    c.loop-edge.edge-index (plain_point g.I.IntNumber.whole c.args.point) 2147483648 c.loop-edge.sums.clip
    c.requires.light c.loop-edge.invariant.clip

pub loop-edge-preserved : goal.loop-edge-preserved
loop-edge-preserved g c =
    let plain = plain_edge g.I.IntNumber.whole g.C.EdgeCount.counts in
    let p = plain_point g.I.IntNumber.whole c.args.point in
    record {
      subj = entering_more subj_of plain c.args.edges.now c.loop-edge.edge-index c.edge-item.result p
          c.loop-edge.sums.subj c.with_edge-sums.result.subj c.loop-edge-test.true c.edge-item.is
          c.loop-edge.invariant.subj c.with_edge-sums.ensures.subj;
      clip = entering_more clip_of plain c.args.edges.now c.loop-edge.edge-index c.edge-item.result p
          c.loop-edge.sums.clip c.with_edge-sums.result.clip c.loop-edge-test.true c.edge-item.is
          c.loop-edge.invariant.clip c.with_edge-sums.ensures.clip;
    }
