-- The sums so far are those of the edges so far.
use Rattle.std.proofs.Common.{◌≡◌, take}
use Rattle.overlay_geom.specs.Edges.{subj_of, clip_of}
use Rattle.overlay_geom.specs.Points.{plain_point}
use Rattle.overlay_order.specs.Content.{plain_edges}
use Rattle.overlay_vector.specs.Entering.{entering}
use Rattle.overlay_vector.proofs.balance.sums_at.Given as goal

abbrev pub invariant-loop-edge : goal.invariant-loop-edge
invariant-loop-edge g l = record {
  subj : l.sums.subj ≡ entering subj_of
      (plain_edges g.I.IntNumber.whole g.C.EdgeCount.counts (take l.edge-index l.edges))
      (plain_point g.I.IntNumber.whole l.point);
  clip : l.sums.clip ≡ entering clip_of
      (plain_edges g.I.IntNumber.whole g.C.EdgeCount.counts (take l.edge-index l.edges))
      (plain_point g.I.IntNumber.whole l.point);
}
