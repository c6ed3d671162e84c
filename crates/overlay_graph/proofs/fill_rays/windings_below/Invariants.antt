-- The windings so far are those of the edges so far.
use Rattle.std.proofs.Common.{◌≡◌, take}
use Rattle.overlay_geom.specs.Edges.{subj_of, clip_of, winding_below}
use Rattle.overlay_order.specs.Content.{plain_edge, plain_edges}
use Rattle.overlay_graph.proofs.fill_rays.windings_below.Given as goal

abbrev pub invariant-loop-e : goal.invariant-loop-e
invariant-loop-e g l = record {
  subj : l.windings.subj ≡ winding_below subj_of
      (plain_edges g.I.IntNumber.whole g.C.EdgeCount.counts (take l.e-index l.edges))
      (plain_edge g.I.IntNumber.whole g.C.EdgeCount.counts l.edge);
  clip : l.windings.clip ≡ winding_below clip_of
      (plain_edges g.I.IntNumber.whole g.C.EdgeCount.counts (take l.e-index l.edges))
      (plain_edge g.I.IntNumber.whole g.C.EdgeCount.counts l.edge);
}
