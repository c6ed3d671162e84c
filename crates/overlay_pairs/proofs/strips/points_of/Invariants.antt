-- The points of the boxes so far are taken.
use Rattle.std.proofs.Common.{◌≡◌, take}
use Rattle.overlay_geom.specs.Points.{plain_points}
use Rattle.overlay_pairs.specs.Extents.{plain_extents}
use Rattle.overlay_pairs.specs.PointStrips.{points_of}
use Rattle.overlay_pairs.proofs.strips.points_of.Given as goal

abbrev pub invariant-loop-k : goal.invariant-loop-k
invariant-loop-k g l =
    let whole = g.I.IntNumber.whole in
    plain_points whole l.taken.items ≡ points_of (plain_points whole l.points) (plain_extents whole (take l.k l.boxes))
