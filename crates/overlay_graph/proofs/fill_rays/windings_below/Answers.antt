-- One more edge adds its counts where it is strictly below the midpoint, and no sum gets further from 0 than the
-- weight.
use Rattle.overlay_geom.specs.Plane.{midpoint}
use Rattle.overlay_geom.specs.Edges.{ends_of, subj_of, clip_of}
use Rattle.overlay_geom.proofs.WindingSums.{subj_weighed, clip_weighed, winding_by-front, winding_by-counted}
use Rattle.overlay_geom.proofs.WindingSums.{winding_by-passed}
use Rattle.overlay_geom.proofs.Mapped.{All-mapped_at}
use Rattle.overlay_order.specs.Content.{plain_edge, IsHeld}
use Rattle.overlay_graph.proofs.fill_rays.windings_below.Goals as goal
use Rattle.overlay_graph.proofs.fill_rays.windings_below.Goals.{then-is_below_middle, else-is_below_middle}

pub is_below_middle-requires-clause-e : goal.is_below_middle-requires-clause-e
is_below_middle-requires-clause-e g c =
    All-mapped_at (IsHeld g.I.IntNumber.limit) (plain_edge g.I.IntNumber.whole g.C.EdgeCount.counts) c.args.edges.now
    c.loop-e.e-index c.e-item.result
    c.loop-e-test.true c.e-item.is c.requires.content.held

pub beyond-windings-requires-clause-subj : goal.beyond-windings-requires-clause-subj
beyond-windings-requires-clause-subj g c = winding_by-front subj_of subj_weighed
    (plain_edge g.I.IntNumber.whole g.C.EdgeCount.counts) c.args.edges.now c.loop-e.e-index
    (midpoint (ends_of (plain_edge g.I.IntNumber.whole g.C.EdgeCount.counts c.args.edge.now))) 2147483648
    c.loop-e.windings.subj c.requires.content.light c.loop-e.invariant.subj

pub beyond-windings-requires-clause-clip : goal.beyond-windings-requires-clause-clip
beyond-windings-requires-clause-clip g c = winding_by-front clip_of clip_weighed
    (plain_edge g.I.IntNumber.whole g.C.EdgeCount.counts) c.args.edges.now c.loop-e.e-index
    (midpoint (ends_of (plain_edge g.I.IntNumber.whole g.C.EdgeCount.counts c.args.edge.now))) 2147483648
    c.loop-e.windings.clip c.requires.content.light c.loop-e.invariant.clip

pub loop-e-preserved : goal.loop-e-preserved
loop-e-preserved g c =
    let plain = plain_edge g.I.IntNumber.whole g.C.EdgeCount.counts in
    let p = midpoint (ends_of (plain c.args.edge.now)) in
    elim c.if-is_below_middle.branch [
      | then-is_below_middle w ↦ record {
        subj = winding_by-counted subj_of plain c.args.edges.now c.loop-e.e-index c.e-item.result p
            c.loop-e.windings.subj c.if-is_below_middle.windings.subj c.loop-e-test.true c.e-item.is
            (cc) c.loop-e.invariant.subj (cc);
        clip = winding_by-counted clip_of plain c.args.edges.now c.loop-e.e-index c.e-item.result p
            c.loop-e.windings.clip c.if-is_below_middle.windings.clip c.loop-e-test.true c.e-item.is
            (cc) c.loop-e.invariant.clip (cc);
      }
      | else-is_below_middle w ↦ record {
        subj = winding_by-passed subj_of plain c.args.edges.now c.loop-e.e-index c.e-item.result p
            c.loop-e.windings.subj c.if-is_below_middle.windings.subj c.loop-e-test.true c.e-item.is
            (cc) c.loop-e.invariant.subj (cc);
        clip = winding_by-passed clip_of plain c.args.edges.now c.loop-e.e-index c.e-item.result p
            c.loop-e.windings.clip c.if-is_below_middle.windings.clip c.loop-e-test.true c.e-item.is
            (cc) c.loop-e.invariant.clip (cc);
      }
    ]
