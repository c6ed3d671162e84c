-- The kept contours of an overlay's cut of selected steps, and facts of them and of any shapes found for them.
use Rattle.std.specs.Prelude.{◌≡◌, ℕ, Bool, true, List, All, Option}
use Rattle.std.specs.List.Sorted.{IsPermutation}
use Rattle.overlay_geom.specs.Plane.{Point, PlanePoint, winding}
use Rattle.overlay_geom.specs.Edges.{CountedEdge, subj_of, clip_of}
use Rattle.overlay_plane.specs.Binding.{walks_of}
use Rattle.overlay_plane.specs.BoundContours.{AreShapesFound, NoHoleIsLost, walks_in, contours_bound, shapes_bound}
use Rattle.overlay_plane.specs.ContourWindings.{wanted_winding}
use Rattle.overlay_plane.specs.Groups.{IsSimpleContour}
use Rattle.overlay_plane.specs.KeptContours.{CanBeBound}
use Rattle.overlay_plane.specs.RoledContours.{Contour, IsCutBy}
use Rattle.overlay_plane.specs.ShapesAlone.{EachWindsOnceOrNot}
use Rattle.overlay_plane.specs.ShapeWindings.{points_of_shapes, steps_of_shapes, AreKeptOrThinned}
use Rattle.overlay_walk.specs.Asked.{Asked, region_asked, filled_asked, selected_of, is_kept}

-- the contours bound to shapes, by their points: of each shape its outline, the holes of the outline's own group, and
-- then the holes for which the shape is found
abbrev pub shapes_found : List Contour → List (Option ℕ) → List (List (List Point))
shapes_found contours shapes = points_of_shapes (shapes_bound (contours_bound contours shapes))

-- where the shapes are found, no hole is lost, and the shapes have each selected step exactly once. They wind as asked,
-- with each contour thinned or not, and each shape by itself winds once or zero times
pub record AreWhole (q : Asked) (es : List CountedEdge) (contours : List Contour)
    (shapes : List (Option ℕ)) : Type 0 where
  pub none_lost : NoHoleIsLost contours shapes
  pub each_once : IsPermutation (selected_of q es) (steps_of_shapes (shapes_found contours shapes))
  pub winds : (as_given : Bool) (result : List (List (List Point))) →
      AreKeptOrThinned as_given (shapes_found contours shapes) result → (p : PlanePoint) →
      winding (steps_of_shapes result) p ≡ wanted_winding (region_asked q) subj_of clip_of (filled_asked q) es p
  -- each shape by itself winds once, or zero times
  pub each_alone : (as_given : Bool) (result : List (List (List Point))) →
      AreKeptOrThinned as_given (shapes_found contours shapes) result → EachWindsOnceOrNot (filled_asked q) result

-- the contours are those of a cut of the selected steps, in groups if that is asked for, that reach the minimum area
pub record AreKeptResults (q : Asked) (es : List CountedEdge) (contours : List Contour) : Type 0 where
  pub cut : IsCutBy q.ogc (filled_asked q) (is_kept q) (selected_of q es) contours
  -- the contours can be bound
  pub bindable : CanBeBound (filled_asked q) (walks_in contours)
  -- the walks of any shapes found for them can be bound too
  pub bindable_again : (shapes : List (Option ℕ)) → AreShapesFound (filled_asked q) contours shapes →
      CanBeBound (filled_asked q) (walks_of (shapes_bound (contours_bound contours shapes)))
  -- in groups no contour visits a point twice
  pub simple : q.ogc ≡ true → All IsSimpleContour (walks_in contours)
  -- with the minimum area zero nothing is left out
  pub whole : q.min_output_area ≡ 0 → (shapes : List (Option ℕ)) → AreShapesFound (filled_asked q) contours shapes →
      AreWhole q es contours shapes
