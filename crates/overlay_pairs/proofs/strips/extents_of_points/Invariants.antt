-- The points so far have their boxes.
use Rattle.std.proofs.Common.{◌≡◌, take}
use Rattle.overlay_geom.specs.Points.{plain_points}
use Rattle.overlay_pairs.specs.Extents.{extents_of_points, plain_extents}
use Rattle.overlay_pairs.proofs.strips.extents_of_points.Given as goal

abbrev pub invariant-loop-place : goal.invariant-loop-place
invariant-loop-place g l = plain_extents g.I.IntNumber.whole l.extents.items
    ≡ extents_of_points (plain_points g.I.IntNumber.whole (take l.place l.points))
