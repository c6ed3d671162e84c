-- The shapes so far are those at the places so far, and the store is reached.
use Rattle.std.proofs.Common.{take}
use Rattle.overlay_plane.specs.PlacedContours.{walks_at}
use Rattle.overlay_parts.specs.Stores.{IsStoreReached}
use Rattle.overlay_walk.specs.GroupedContours.{plain_contours}
use Rattle.overlay_extract.specs.Places.{place_lists}
use Rattle.overlay_vector.specs.VectorShapes.{plain_vector_shapes, AreVectorContours}
use Rattle.overlay_vector.proofs.vector_contours.assembled.Given as goal

abbrev pub invariant-loop-shape : goal.invariant-loop-shape
invariant-loop-shape g l =
    let whole = g.I.IntNumber.whole in
    AreVectorContours g.D.OverlayEdgeData.reverses g.D.PartialEq.eq l.graph.fill_rule l.keeps_edges l.graph.edges
    (walks_at (plain_contours whole l.contours) (place_lists (take l.shape-index l.places)))
    (plain_vector_shapes whole l.shapes.items)
    × IsStoreReached g.D.OverlayEdgeData.writes l.initial.store l.store
