-- Locations, and what is inside, on none of the edges.
use Rattle.std.specs.Prelude.{◌≡◌, ◌↔◌, true, List}
use Rattle.overlay_geom.specs.Plane.{Point, PlanePoint, IsOff}
use Rattle.overlay_relate.specs.Locations.{is_in_shape, is_in_shapes, shape_edges, shapes_edges, IsLocatedIn}
use Rattle.overlay_relate.specs.Locations.{IsLocatedAmong}
use Rattle.overlay_relate.specs.declared.location.PointLocation.{PointLocation}
use Rattle.overlay_relate.specs.declared.location.PointLocation.TheVariants.{Inside}

-- off all edges a point is inside a shape, or inside one of several, exactly where it is located inside
pub record InsideOffEdges : Type 0 where
  pub shape : (s : List (List Point)) (p : PlanePoint) (l : PointLocation) → IsOff (shape_edges s) p →
      IsLocatedIn s p l →
      ((is_in_shape s p ≡ true) ↔ (l ≡ Inside))
  pub shapes : (ss : List (List (List Point))) (p : PlanePoint) (l : PointLocation) → IsOff (shapes_edges ss) p →
      IsLocatedAmong ss p l →
      ((is_in_shapes ss p ≡ true) ↔ (l ≡ Inside))
