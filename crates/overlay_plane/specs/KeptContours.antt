-- The kept contours of a cut of the selected steps of an arrangement, with groups or without. The contours can be bound
-- to shapes. Where all of them are kept, no hole is lost, and the shapes to which they are bound have each selected
-- step once.
use Rattle.std.specs.Prelude.{◌≡◌, ℕ, Bool, true, false, ℤ, List, length, All, AllPairs, Option, Some, None, slice_get}
use Rattle.std.specs.Prelude.{slice_index_or}
use Rattle.std.specs.List.Sorted.{IsPermutation}
use Rattle.overlay_geom.specs.Plane.{Point, PlanePoint, Step, edge_of, edge_eq, points_of, winding}
use Rattle.overlay_geom.specs.Edges.{CountedEdge}
use Rattle.overlay_geom.specs.Settled.{IsSettledBy}
use Rattle.overlay_plane.specs.Turn.{Hand, other_hand}
use Rattle.overlay_plane.specs.Regions.{IsRuled}
use Rattle.overlay_plane.specs.SelectedSteps.{selected_steps}
use Rattle.overlay_plane.specs.Contours.{all_steps, IsContour}
use Rattle.overlay_plane.specs.ContourWindings.{wanted_winding}
use Rattle.overlay_plane.specs.Anchors.{HasEachEdgeOnce}
use Rattle.overlay_plane.specs.Binding.{all_filled_above, walks_of}
use Rattle.overlay_plane.specs.RoledContours.{Contour, free_hole, IsCutBy}
use Rattle.overlay_plane.specs.BoundContours.{IsParent, AreShapesFound, NoHoleIsLost, walks_in, contours_bound}
use Rattle.overlay_plane.specs.BoundContours.{shapes_bound}
use Rattle.overlay_plane.specs.Groups.{IsSimpleContour}
use Rattle.overlay_plane.specs.ShapeWindings.{points_of_shapes, steps_of_shapes, AreKeptOrThinned}
use Rattle.overlay_plane.specs.Thinning.{HasNoSpikes}

-- walks that can be bound: each is a contour, and walks along no edge twice. No two of their filled-above edges are
-- equal, nor two of their filled-below edges, and different edges meet in ends alone
pub record CanBeBound (filled : Hand) (walks : List (List Step)) : Type 0 where
  pub contours : All IsContour walks
  pub single : All HasEachEdgeOnce walks
  pub distinct_above : AllPairs (λ e f. edge_eq e f ≡ false) (all_filled_above filled walks)
  pub distinct_below : AllPairs (λ e f. edge_eq e f ≡ false) (all_filled_above (other_hand filled) walks)
  pub settled : IsSettledBy edge_of (all_steps walks)

-- the contours are those of a cut of the selected steps of a ruled list, with groups or without, that pass the test
pub record AreKeptContours (holds : ℤ → ℤ → Bool) (subj clip : CountedEdge → ℤ) (es : List CountedEdge) (filled : Hand)
    (in_groups : Bool) (keeps : List Step → Bool) (contours : List Contour) : Type 0 where
  pub ruled : IsRuled holds subj clip es
  pub cut : IsCutBy in_groups filled keeps (selected_steps holds subj clip filled es) contours

-- kept contours can be bound
abbrev pub KeptContoursCanBeBound : Type 0
KeptContoursCanBeBound = (holds : ℤ → ℤ → Bool) (subj clip : CountedEdge → ℤ) (es : List CountedEdge) (filled : Hand)
    (in_groups : Bool) (keeps : List Step → Bool) (contours : List Contour) →
    AreKeptContours holds subj clip es filled in_groups keeps contours →
    CanBeBound filled (walks_in contours)

-- with groups, no kept contour visits a point twice
abbrev pub KeptContoursAreSimple : Type 0
KeptContoursAreSimple = (holds : ℤ → ℤ → Bool) (subj clip : CountedEdge → ℤ) (es : List CountedEdge) (filled : Hand)
    (keeps : List Step → Bool) (contours : List Contour) →
    AreKeptContours holds subj clip es filled true keeps contours →
    All IsSimpleContour (walks_in contours)

-- the way goes on at each point of a kept contour that is collinear with its neighbours
abbrev pub KeptContoursHaveNoSpikes : Type 0
KeptContoursHaveNoSpikes = (holds : ℤ → ℤ → Bool) (subj clip : CountedEdge → ℤ) (es : List CountedEdge) (filled : Hand)
    (in_groups : Bool) (keeps : List Step → Bool) (contours : List Contour) →
    AreKeptContours holds subj clip es filled in_groups keeps contours →
    All (λ w. HasNoSpikes (points_of w)) (walks_in contours)

-- the walks of the shapes to which they are bound can be bound again, for the holes round islands
abbrev pub KeptShapesCanBeBound : Type 0
KeptShapesCanBeBound = (holds : ℤ → ℤ → Bool) (subj clip : CountedEdge → ℤ) (es : List CountedEdge) (filled : Hand)
    (in_groups : Bool) (keeps : List Step → Bool) (contours : List Contour) →
    AreKeptContours holds subj clip es filled in_groups keeps contours →
    (shapes : List (Option ℕ)) → AreShapesFound filled contours shapes →
    CanBeBound filled (walks_of (shapes_bound (contours_bound contours shapes)))

-- ---- where all are kept

-- each contour passes the test
abbrev pub KeepsAll : (List Step → Bool) → Type 0
KeepsAll keeps = (walk : List Step) → IsContour walk → keeps walk ≡ true

-- the contours take each selected step once
abbrev pub AllContoursTakeEachOnce : Type 0
AllContoursTakeEachOnce = (holds : ℤ → ℤ → Bool) (subj clip : CountedEdge → ℤ) (es : List CountedEdge) (filled : Hand)
    (in_groups : Bool) (keeps : List Step → Bool) (contours : List Contour) →
    AreKeptContours holds subj clip es filled in_groups keeps contours → KeepsAll keeps →
    IsPermutation (selected_steps holds subj clip filled es) (all_steps (walks_in contours))

-- a shape that stands alone is the parent of each hole, so the holes' parents are the shapes found
abbrev pub AllParentsAreFound : Type 0
AllParentsAreFound = (holds : ℤ → ℤ → Bool) (subj clip : CountedEdge → ℤ) (es : List CountedEdge) (filled : Hand)
    (in_groups : Bool) (keeps : List Step → Bool) (contours : List Contour) →
    AreKeptContours holds subj clip es filled in_groups keeps contours → KeepsAll keeps →
    (shapes : List (Option ℕ)) → length shapes ≡ length contours →
    ((i : ℕ) (c : Contour) → slice_get contours i ≡ Some c → c.role ≡ free_hole →
    IsParent filled contours i (slice_index_or shapes i None)) →
    AreShapesFound filled contours shapes

-- a shape is found for each hole
abbrev pub AllHolesHaveShapes : Type 0
AllHolesHaveShapes = (holds : ℤ → ℤ → Bool) (subj clip : CountedEdge → ℤ) (es : List CountedEdge) (filled : Hand)
    (in_groups : Bool) (keeps : List Step → Bool) (contours : List Contour) →
    AreKeptContours holds subj clip es filled in_groups keeps contours → KeepsAll keeps →
    (shapes : List (Option ℕ)) → AreShapesFound filled contours shapes → NoHoleIsLost contours shapes

-- the shapes have each selected step once
abbrev pub AllShapesHaveEachStep : Type 0
AllShapesHaveEachStep = (holds : ℤ → ℤ → Bool) (subj clip : CountedEdge → ℤ) (es : List CountedEdge) (filled : Hand)
    (in_groups : Bool) (keeps : List Step → Bool) (contours : List Contour) →
    AreKeptContours holds subj clip es filled in_groups keeps contours → KeepsAll keeps →
    (shapes : List (Option ℕ)) → AreShapesFound filled contours shapes → IsPermutation
    (selected_steps holds subj clip filled es)
    (steps_of_shapes (points_of_shapes (shapes_bound (contours_bound contours shapes))))

-- the shapes wind once where the rule holds, and zero times elsewhere, with each contour thinned or not
abbrev pub AllShapesWind : Type 0
AllShapesWind = (holds : ℤ → ℤ → Bool) (subj clip : CountedEdge → ℤ) (es : List CountedEdge) (filled : Hand)
    (in_groups : Bool) (keeps : List Step → Bool) (contours : List Contour) →
    AreKeptContours holds subj clip es filled in_groups keeps contours → KeepsAll keeps →
    (shapes : List (Option ℕ)) → AreShapesFound filled contours shapes →
    (as_given : Bool) (result : List (List (List Point))) →
    AreKeptOrThinned as_given (points_of_shapes (shapes_bound (contours_bound contours shapes))) result →
    (p : PlanePoint) → winding (steps_of_shapes result) p ≡ wanted_winding holds subj clip filled es p
