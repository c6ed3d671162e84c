-- An added contour adds its winding to the windings of its side, thinned or not, and nothing to those of the other
-- side.
use Rattle.std.specs.Prelude.{◌≡◌, Bool, ℤ, ◌+ℤ◌, List}
use Rattle.overlay_geom.specs.Plane.{Point, PlanePoint, steps_of, winding}
use Rattle.overlay_geom.specs.Edges.{CountedEdge, subj_of, clip_of, subject_edge, clip_edge, winding_by, AddsContour}

-- the windings by one count have risen by the contour's winding, and those by the other count are unchanged
pub record AddsWinding (risen kept : CountedEdge → ℤ) (given : List Point) (old new : List CountedEdge) : Type 0 where
  pub rises : (p : PlanePoint) → winding_by risen new p ≡ winding_by risen old p +ℤ winding (steps_of given) p
  pub stays : (p : PlanePoint) → winding_by kept new p ≡ winding_by kept old p

-- adding a contour of the subject does so, and so does adding a contour of the clip
pub record AddingAddsWindings : Type 0 where
  pub subject : (keep : Bool) (given : List Point) (old new : List CountedEdge) →
      AddsContour keep subject_edge given old new →
      AddsWinding subj_of clip_of given old new
  pub clip : (keep : Bool) (given : List Point) (old new : List CountedEdge) →
      AddsContour keep clip_edge given old new →
      AddsWinding clip_of subj_of given old new
