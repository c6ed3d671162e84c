-- Slices: the loops of filled sides that reach the minimum area, as contours with roles, and the shapes to which the
-- holes among them are bound.
use Rattle.std.specs.Prelude.{◌≡◌, ℕ, List, Option, filter}
use Rattle.std.specs.Int.{Width}
use Rattle.overlay_geom.specs.Plane.{Step}
use Rattle.overlay_geom.specs.Edges.{CountedEdge, subj_of}
use Rattle.overlay_geom.specs.Rules.{is_filled}
use Rattle.overlay_geom.specs.declared.fill_rule.FillRule.{FillRule}
use Rattle.overlay_plane.specs.BoundContours.{AreShapesFound, walks_in}
use Rattle.overlay_plane.specs.MinimumArea.{reaches}
use Rattle.overlay_plane.specs.RoledContours.{Contour}
use Rattle.overlay_plane.specs.Turn.Hand.{left}
use Rattle.overlay_extract.specs.Bound.{HaveRoles}
use Rattle.overlay_extract.specs.FilledSides.{filled_sides}
use Rattle.overlay_extract.specs.Loops.{AreLoops}
use Rattle.overlay_extract.specs.SlicingWalks.{AreFoundInOrder}

-- the contours are the loops into which the filled sides of the edges are cut, in the order in which they are found, as
-- far as they reach the minimum area in a type of this width, with their roles
pub record AreSliceContours (width : Width) (min : ℕ) (fill : FillRule) (es : List CountedEdge)
    (contours : List Contour) : Type 0 where
  pub loops : List (List Step)
  pub cut : AreLoops (filled_sides (is_filled fill) subj_of es) loops
  pub found : AreFoundInOrder (filled_sides (is_filled fill) subj_of es) loops
  pub kept : walks_in contours ≡ filter (reaches width min) loops
  pub roles : HaveRoles 0 contours

-- and these are the shapes that are found for them
pub record AreSlices (width : Width) (min : ℕ) (fill : FillRule) (es : List CountedEdge) (contours : List Contour)
    (shapes : List (Option ℕ)) : Type 0 where
  pub contours_are : AreSliceContours width min fill es contours
  pub bound : AreShapesFound left contours shapes
