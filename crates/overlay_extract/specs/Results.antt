-- The answer of an overlay: the contours of a cut of an arrangement's selected steps, bound to shapes.
use Rattle.std.specs.Prelude.{◌≡◌, ℕ, true, List, All, map, filter, Option}
use Rattle.std.specs.List.{AllZip, flat_map}
use Rattle.std.specs.List.Sorted.{IsPermutation}
use Rattle.overlay_geom.specs.Plane.{Point, Step, PlanePoint, IsOff, steps_of, points_of, winding}
use Rattle.overlay_geom.specs.Edges.{CountedEdge, ends_of, subj_of, clip_of}
use Rattle.overlay_geom.specs.Thinned.{IsKeptOrThinned}
use Rattle.overlay_plane.specs.Binding.{AreCutFrom}
use Rattle.overlay_plane.specs.BoundContours.{AreShapesFound, NoHoleIsLost, walks_in}
use Rattle.overlay_plane.specs.ContourWindings.{wanted_winding}
use Rattle.overlay_plane.specs.Groups.{HasEachPointOnce}
use Rattle.overlay_plane.specs.RoledContours.{Contour, IsCut, IsCutBy}
use Rattle.overlay_plane.specs.ShapesAlone.{EachWindsOnceOrNot}
use Rattle.overlay_plane.specs.ShapeWindings.{steps_of_shapes, AreKeptOrThinned}
pub use Rattle.overlay_walk.specs.Asked.{Asked, asked, region_asked, filled_asked, selected_of, is_kept}
pub use Rattle.overlay_walk.specs.KeptResults.{shapes_found}

-- the walks of a cut of the selected steps, without groups, that reach the minimum area
pub record AreKeptWalks (q : Asked) (es : List CountedEdge) (kept : List (List Step)) : Type 0 where
  pub walks : List (List Step)
  pub cut : AreCutFrom (region_asked q) subj_of clip_of es (filled_asked q) walks
  pub are : kept ≡ filter (is_kept q) walks

-- round each point off the edges, the contours wind once, in the output direction, where the rules hold of the windings
-- there. They wind zero times elsewhere
abbrev pub WindsRoundRegion : Asked → List CountedEdge → List Step → Type 0
WindsRoundRegion q es steps = (p : PlanePoint) → IsOff (map ends_of es) p →
    winding steps p ≡ wanted_winding (region_asked q) subj_of clip_of (filled_asked q) es p

-- the result of an overlay over the edges of an arrangement
pub record IsResult (q : Asked) (es : List CountedEdge) (result : List (List (List Point))) : Type 0 where
  -- ---- the promise: the region, with the minimum area zero
  -- round each point off the edges the result winds as asked
  pub winds : q.min_output_area ≡ 0 → WindsRoundRegion q es (steps_of_shapes result)
  -- each shape by itself winds once, in the output direction, round a point, or zero times
  pub each_alone : q.min_output_area ≡ 0 → EachWindsOnceOrNot (filled_asked q) result
  -- ---- the promise: the contours, and their places
  -- the contours of a cut of the selected steps that reach the minimum area. While steps are left, the next walk is the
  -- orbit of the step along the top edge at their leftmost lowest point; with ogc the cut is in groups
  pub contours : List Contour
  pub cut : IsCutBy q.ogc (filled_asked q) (is_kept q) (selected_of q es) contours
  -- the shape of each hole whose shape is not known from the start: its parent, or the only shape
  pub shapes : List (Option ℕ)
  pub found : AreShapesFound (filled_asked q) contours shapes
  -- the result shows the contours, in their shapes and their order, each thinned or not
  pub shown : AreKeptOrThinned q.preserve_output_collinear (shapes_found contours shapes) result
  -- ---- consequences, with the minimum area zero
  -- no hole is lost
  pub none_lost : q.min_output_area ≡ 0 → NoHoleIsLost contours shapes
  -- the contours have each selected step exactly once
  pub each_once : q.min_output_area ≡ 0 →
      IsPermutation (selected_of q es) (steps_of_shapes (shapes_found contours shapes))
  -- the result has each selected step exactly once, where collinear points stay
  pub kept_each_once : q.min_output_area ≡ 0 → q.preserve_output_collinear ≡ true →
      IsPermutation (selected_of q es) (steps_of_shapes result)
  -- ---- consequences, with ogc
  -- no contour visits a point twice, and none of the result does
  pub points_once : q.ogc ≡ true → All (All HasEachPointOnce) (shapes_found contours shapes)
  pub shown_points_once : q.ogc ≡ true → All (All HasEachPointOnce) result

-- the contours of an overlay over the edges of an arrangement, in a list in the order in which they are found. They are
-- cut without groups, whatever is asked for
pub record IsContoursResult (q : Asked) (es : List CountedEdge) (result : List (List Point)) : Type 0 where
  -- ---- the promise: the region, with the minimum area zero
  -- round each point off the edges the result winds as asked
  pub winds : q.min_output_area ≡ 0 → WindsRoundRegion q es (flat_map steps_of result)
  -- ---- the promise: the contours
  pub contours : List Contour
  pub cut : IsCut (filled_asked q) (is_kept q) (selected_of q es) contours
  -- the result shows the contours, each thinned or not
  pub shown : AllZip (IsKeptOrThinned q.preserve_output_collinear) (map points_of (walks_in contours)) result
  -- ---- consequences, with the minimum area zero
  -- the contours have each selected step exactly once
  pub each_once : q.min_output_area ≡ 0 →
      IsPermutation (selected_of q es) (flat_map steps_of (map points_of (walks_in contours)))
  -- the result has each selected step exactly once, where collinear points stay
  pub kept_each_once : q.min_output_area ≡ 0 → q.preserve_output_collinear ≡ true →
      IsPermutation (selected_of q es) (flat_map steps_of result)
