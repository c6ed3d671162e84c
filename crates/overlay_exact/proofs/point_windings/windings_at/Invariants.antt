-- The windings so far are those of the edges so far.
use Rattle.std.proofs.Common.{◌≡◌, take}
use Rattle.overlay_geom.specs.Edges.{subj_of, clip_of, winding_by}
use Rattle.overlay_geom.specs.Plane.{in_plane}
use Rattle.overlay_geom.specs.Points.{plain_point}
use Rattle.overlay_order.specs.Content.{plain_edges}
use Rattle.overlay_exact.proofs.point_windings.windings_at.Given as goal

abbrev pub invariant-loop-e : goal.invariant-loop-e
invariant-loop-e g l = record {
  subj : l.windings.subj ≡ winding_by subj_of
      (plain_edges g.I.IntNumber.whole g.C.EdgeCount.counts (take l.e-index l.edges))
      (in_plane (plain_point g.I.IntNumber.whole l.v));
  clip : l.windings.clip ≡ winding_by clip_of
      (plain_edges g.I.IntNumber.whole g.C.EdgeCount.counts (take l.e-index l.edges))
      (in_plane (plain_point g.I.IntNumber.whole l.v));
}
