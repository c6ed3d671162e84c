-- The contours so far are those at the places so far, and the store is reached.
use Rattle.std.proofs.Common.{map, take}
use Rattle.std.specs.List.{AllZip}
use Rattle.overlay_plane.specs.PlacedContours.{walk_at}
use Rattle.overlay_parts.specs.Stores.{IsStoreReached}
use Rattle.overlay_walk.specs.GroupedContours.{plain_contours}
use Rattle.overlay_extract.specs.Places.{place_list}
use Rattle.overlay_vector.specs.VectorShapes.{plain_vector_shape, IsVectorContour}
use Rattle.overlay_vector.proofs.vector_contours.shape_at.Given as goal

abbrev pub invariant-loop-i : goal.invariant-loop-i
invariant-loop-i g l =
    let whole = g.I.IntNumber.whole in
    AllZip (IsVectorContour g.D.OverlayEdgeData.reverses g.D.PartialEq.eq l.graph.fill_rule l.keeps_edges l.graph.edges)
    (map (walk_at (plain_contours whole l.contours)) (take l.i (place_list l.places)))
    (plain_vector_shape whole l.shape.items)
    × IsStoreReached g.D.OverlayEdgeData.writes l.initial.store l.store
