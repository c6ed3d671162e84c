-- The winding above the edge is the winding below it plus its own count; both stay within the weight.
use Rattle.overlay_geom.specs.Plane.{midpoint}
use Rattle.overlay_geom.specs.Edges.{ends_of, subj_of, clip_of}
use Rattle.overlay_geom.proofs.WindingSums.{subj_weighed, clip_weighed, winding_by-light}
use Rattle.overlay_order.specs.Content.{plain_edge, plain_edges}
use Rattle.overlay_graph.proofs.SideBits.{bits_between_windings}
use Rattle.overlay_graph.proofs.fill_rays.fill_of.Goals as goal

pub beyond-above-requires-clause-subj : goal.beyond-above-requires-clause-subj
beyond-above-requires-clause-subj g c = winding_by-light subj_of subj_weighed
    (plain_edges g.I.IntNumber.whole g.C.EdgeCount.counts c.args.edges.now)
    (midpoint (ends_of (plain_edge g.I.IntNumber.whole g.C.EdgeCount.counts c.args.edge.now))) 2147483648
    c.windings_below-below.result.subj c.requires.content.light c.windings_below-below.ensures.subj

pub beyond-above-requires-clause-clip : goal.beyond-above-requires-clause-clip
beyond-above-requires-clause-clip g c = winding_by-light clip_of clip_weighed
    (plain_edges g.I.IntNumber.whole g.C.EdgeCount.counts c.args.edges.now)
    (midpoint (ends_of (plain_edge g.I.IntNumber.whole g.C.EdgeCount.counts c.args.edge.now))) 2147483648
    c.windings_below-below.result.clip c.requires.content.light c.windings_below-below.ensures.clip

pub returns : goal.returns
returns g c =
    bits_between_windings c.args.rule (plain_edges g.I.IntNumber.whole g.C.EdgeCount.counts c.args.edges.now)
    (plain_edge g.I.IntNumber.whole g.C.EdgeCount.counts c.args.edge.now) c.bits_between.result
    c.windings_below-below.result.subj c.windings_below-below.result.clip c.beyond-above.result.subj
    c.beyond-above.result.clip
    c.windings_below-below.ensures.subj c.windings_below-below.ensures.clip c.beyond-above.ensures.subj
    c.beyond-above.ensures.clip
    c.bits_between.ensures
