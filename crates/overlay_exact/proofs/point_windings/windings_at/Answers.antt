-- One more edge adds its counts where it is strictly below the point, and no sum gets further from 0 than the
-- weight.
use Rattle.overlay_geom.specs.Plane.{in_plane}
use Rattle.overlay_geom.specs.Edges.{subj_of, clip_of}
use Rattle.overlay_geom.specs.Points.{plain_point}
use Rattle.overlay_geom.proofs.WindingSums.{subj_weighed, clip_weighed, winding_by-front, winding_by-counted}
use Rattle.overlay_geom.proofs.WindingSums.{winding_by-passed}
use Rattle.overlay_geom.proofs.Mapped.{All-mapped_at}
use Rattle.overlay_order.specs.Content.{plain_edge, IsHeld}
use Rattle.overlay_exact.proofs.point_windings.windings_at.Goals as goal
use Rattle.overlay_exact.proofs.point_windings.windings_at.Goals.{then-is_below, else-is_below}

pub is_below-requires-clause-edge : goal.is_below-requires-clause-edge
is_below-requires-clause-edge g c =
    All-mapped_at (IsHeld g.I.IntNumber.limit) (plain_edge g.I.IntNumber.whole g.C.EdgeCount.counts) c.args.edges.now
    c.loop-e.e-index c.e-item.result
    c.loop-e-test.true c.e-item.is c.requires.content.held

pub with-windings-requires-clause-subj : goal.with-windings-requires-clause-subj
with-windings-requires-clause-subj g c = winding_by-front subj_of subj_weighed
    (plain_edge g.I.IntNumber.whole g.C.EdgeCount.counts) c.args.edges.now c.loop-e.e-index
    (in_plane (plain_point g.I.IntNumber.whole c.args.v)) 2147483648
    c.loop-e.windings.subj c.requires.content.light c.loop-e.invariant.subj

pub with-windings-requires-clause-clip : goal.with-windings-requires-clause-clip
with-windings-requires-clause-clip g c = winding_by-front clip_of clip_weighed
    (plain_edge g.I.IntNumber.whole g.C.EdgeCount.counts) c.args.edges.now c.loop-e.e-index
    (in_plane (plain_point g.I.IntNumber.whole c.args.v)) 2147483648
    c.loop-e.windings.clip c.requires.content.light c.loop-e.invariant.clip

pub loop-e-preserved : goal.loop-e-preserved
loop-e-preserved g c =
    let plain = plain_edge g.I.IntNumber.whole g.C.EdgeCount.counts in
    let p = in_plane (plain_point g.I.IntNumber.whole c.args.v) in
    elim c.if-is_below.branch [
      | then-is_below w ↦ record {
        subj = winding_by-counted subj_of plain c.args.edges.now c.loop-e.e-index c.e-item.result p
            c.loop-e.windings.subj c.if-is_below.windings.subj c.loop-e-test.true c.e-item.is
            (cc) c.loop-e.invariant.subj (cc);
        clip = winding_by-counted clip_of plain c.args.edges.now c.loop-e.e-index c.e-item.result p
            c.loop-e.windings.clip c.if-is_below.windings.clip c.loop-e-test.true c.e-item.is
            (cc) c.loop-e.invariant.clip (cc);
      }
      | else-is_below w ↦ record {
        subj = winding_by-passed subj_of plain c.args.edges.now c.loop-e.e-index c.e-item.result p
            c.loop-e.windings.subj c.if-is_below.windings.subj c.loop-e-test.true c.e-item.is
            (cc) c.loop-e.invariant.subj (cc);
        clip = winding_by-passed clip_of plain c.args.edges.now c.loop-e.e-index c.e-item.result p
            c.loop-e.windings.clip c.if-is_below.windings.clip c.loop-e-test.true c.e-item.is
            (cc) c.loop-e.invariant.clip (cc);
      }
    ]
