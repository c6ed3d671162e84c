-- The links of the shapes of an overlay.
use Rattle.std.specs.Prelude.{ℕ, List, Option}
use Rattle.overlay_geom.specs.Plane.{Point}
use Rattle.overlay_geom.specs.Edges.{CountedEdge}
use Rattle.overlay_plane.specs.BoundContours.{contours_bound, shapes_bound}
use Rattle.overlay_plane.specs.Islands.{ChildLink, AreLinks}
use Rattle.overlay_plane.specs.RoledContours.{Contour, group_contours_from}
use Rattle.overlay_extract.specs.ChildLinks.{HaveOtherChildren}
use Rattle.overlay_extract.specs.Results.{Asked, filled_asked, IsResult}

-- the contours of the shapes to which contours are bound, shape by shape, before collinear points are dropped
abbrev pub contours_in_shapes : List Contour → List (Option ℕ) → List Contour
contours_in_shapes contours shapes = group_contours_from 0 (shapes_bound (contours_bound contours shapes))

-- the result of an overlay over the edges of an arrangement, and the links of its shapes
pub record IsHierarchy (q : Asked) (es : List CountedEdge) (result : List (List (List Point)))
    (links : List ChildLink) : Type 0 where
  pub is_result : IsResult q es result
  -- exactly the links of its contours, in order
  pub are_links : AreLinks (filled_asked q) (contours_in_shapes is_result.contours is_result.shapes) links
  -- no shape is the child of two links
  pub children : HaveOtherChildren links
