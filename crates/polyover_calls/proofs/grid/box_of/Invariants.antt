-- The box so far is that of the points seen. With these, the points that are left are all points.
use Rattle.std.proofs.Common.{◌≡◌, ◌++◌, List, drop}
use Rattle.overlay_geom.specs.Plane.{Point}
use Rattle.overlay_geom.specs.Points.{plain_points}
use Rattle.overlay_tiles.specs.Spans.{IsBoxFound}
use Rattle.polyover_calls.specs.Arrays.{points_behind, points_of}
use Rattle.polyover_calls.proofs.grid.box_of.Given as goal

abbrev pub invariant-loop-coordinate : goal.invariant-loop-coordinate
invariant-loop-coordinate g l =
    let whole = g.I.IntNumber.whole in
    (seen : List Point)
    × (seen ++ plain_points whole (points_behind l.before (drop l.coordinate-index l.coordinates))
    ≡ plain_points whole (points_of l.coordinates))
    × IsBoxFound whole seen l.bounds
