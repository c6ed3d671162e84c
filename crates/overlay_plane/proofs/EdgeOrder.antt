-- The order of edges is strict, so an ascending list has distinct edges.
use Rattle.std.proofs.Common.{◌≡◌, true, List, slice_index_or, AllPairs}
use Rattle.overlay_geom.specs.Plane.{edge_lt}
use Rattle.overlay_geom.specs.Edges.{CountedEdge, ends_of}
use Rattle.overlay_geom.proofs.Orders.{edge_eq-from_lt}
use Rattle.overlay_plane.specs.Regions.{HasDistinctEnds}

-- a merged list, which ascends, has distinct ends
pub distinct_from_ascending : (es : List CountedEdge) → AllPairs (λ e f. edge_lt (ends_of e) (ends_of f) ≡ true) es →
    HasDistinctEnds es
distinct_from_ascending es ascending = λ i j d p q. edge_eq-from_lt (ends_of (slice_index_or es i d))
    (ends_of (slice_index_or es j d)) (ascending i j d p q)
