-- The edges so far are counted, and the place looked at comes nearer to the end.
use Rattle.std.proofs.Common.{◌-◌, length, map}
use Rattle.overlay_geom.specs.Plane.{in_plane}
use Rattle.overlay_geom.specs.Points.{plain_point}
use Rattle.overlay_geom.specs.Resolved.{plain_edges}
use Rattle.overlay_relate.proofs.CountedBelow.{IsCounted}
use Rattle.overlay_relate.proofs.prepared.parts.locate_in.Given as goal

abbrev pub invariant-loop-at : goal.invariant-loop-at
invariant-loop-at g l =
    let whole = g.I.IntNumber.whole in
    IsCounted (plain_edges whole (map g.E.FormOf.meant l.edges)) (in_plane (plain_point whole l.point)) l.at l.is_inside

abbrev pub decreases-loop-at : goal.decreases-loop-at
decreases-loop-at g l = length l.edges - l.at
