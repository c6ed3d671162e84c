-- Each hole has a parent, and the shapes have each contour once.
use Rattle.std.specs.Prelude.{◌≡◌, ℕ, Bool, true, ℤ, List, slice_get, Option, Some, None}
use Rattle.std.specs.List.Sorted.{IsPermutation}
use Rattle.overlay_geom.specs.Plane.{Step}
use Rattle.overlay_geom.specs.Edges.{CountedEdge}
use Rattle.overlay_plane.specs.Binding.{is_hole, AreCutFrom, walks_of}
use Rattle.overlay_plane.specs.BoundContours.{IsParent, AreShapesFound, NoHoleIsLost, walks_in, contours_bound}
use Rattle.overlay_plane.specs.BoundContours.{shapes_bound}
use Rattle.overlay_plane.specs.ContourNumbers.{AreNumbers}
use Rattle.overlay_plane.specs.RoledContours.{Contour, contours_from}
use Rattle.overlay_plane.specs.Turn.{Hand}

-- each hole of a cut of selected steps has a parent, so no hole is without a parent
abbrev pub HolesHaveParents : Type 0
HolesHaveParents = (holds : ℤ → ℤ → Bool) (subj clip : CountedEdge → ℤ) (es : List CountedEdge) (filled : Hand)
    (walks : List (List Step)) →
    AreCutFrom holds subj clip es filled walks → (i : ℕ) (hole : List Step) → slice_get walks i ≡ Some hole →
    is_hole filled hole ≡ true →
    ((n : ℕ) × IsParent filled (contours_from filled 0 walks) i (Some n))
    × ¬ (IsParent filled (contours_from filled 0 walks) i None)

-- where the outlines of contours are numbered in order and no hole is lost, the shapes have each contour exactly once
abbrev pub ShapesHaveEachWalk : Type 0
ShapesHaveEachWalk = (filled : Hand) (contours : List Contour) → AreNumbers 0 contours → (shapes : List (Option ℕ)) →
    AreShapesFound filled contours shapes → NoHoleIsLost contours shapes →
    IsPermutation (walks_in contours) (walks_of (shapes_bound (contours_bound contours shapes)))
