-- The contours so far are those at the places so far.
use Rattle.std.proofs.Common.{map, take}
use Rattle.std.specs.List.{AllZip}
use Rattle.overlay_geom.specs.Paths.{paths_of_shape}
use Rattle.overlay_geom.specs.Plane.{points_of}
use Rattle.overlay_geom.specs.Thinned.{IsKeptOrThinned}
use Rattle.overlay_plane.specs.PlacedContours.{walk_at}
use Rattle.overlay_walk.specs.GroupedContours.{plain_contours}
use Rattle.overlay_extract.specs.Places.{place_list}
use Rattle.overlay_extract.proofs.assemble.shape_at.Given as goal

abbrev pub invariant-loop-i : goal.invariant-loop-i
invariant-loop-i g l =
    let whole = g.I.IntNumber.whole in
    AllZip (IsKeptOrThinned l.keeps_points)
    (map points_of (map (walk_at (plain_contours whole l.contours)) (take l.i (place_list l.places))))
    (paths_of_shape whole l.shape.items)
