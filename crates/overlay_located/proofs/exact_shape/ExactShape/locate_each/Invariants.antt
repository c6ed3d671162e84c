-- The points so far are told.
use Rattle.std.proofs.Common.{ℕ, ◌<◌, get_or}
use Rattle.overlay_geom.specs.Plane.{Point, in_plane}
use Rattle.overlay_geom.specs.Points.{plain_points}
use Rattle.overlay_relate.specs.declared.location.PointLocation.{PointLocation}
use Rattle.overlay_located.specs.GivenShapes.{TellsLocation}
use Rattle.overlay_located.proofs.exact_shape.ExactShape.locate_each.Given as goal

abbrev pub invariant-loop-i : goal.invariant-loop-i
invariant-loop-i g l = (k : ℕ) (d : Point) (e : PointLocation) → k < l.i →
    TellsLocation l.self (in_plane (get_or (plain_points g.I.IntNumber.whole l.points) k d)) (get_or l.out k e)
