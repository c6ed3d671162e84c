-- The contours so far are those at the places so far.
use Rattle.std.proofs.Common.{◌≡◌, map, take}
use Rattle.overlay_geom.specs.Plane.{points_of}
use Rattle.overlay_plane.specs.PlacedContours.{walk_at}
use Rattle.overlay_walk.specs.GroupedContours.{plain_contours}
use Rattle.overlay_extract.specs.Places.{place_list}
use Rattle.overlay_extract.specs.TakenBehind.{AreTakenBehind}
use Rattle.overlay_extract.proofs.flat_shapes.push_contours.Given as goal

abbrev pub invariant-loop-i : goal.invariant-loop-i
invariant-loop-i g l =
    let whole = g.I.IntNumber.whole in
    record {
      taken : AreTakenBehind whole l.keeps_points
          (map points_of (map (walk_at (plain_contours whole l.contours)) (take l.i (place_list l.places))))
          l.initial.flat.points.items l.initial.flat.contour_ranges.items l.flat.points.items
          l.flat.contour_ranges.items;
      same_shapes : l.flat.shape_ranges.items ≡ l.initial.flat.shape_ranges.items;
    }
