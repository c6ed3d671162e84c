-- Each shape by itself: its contours wind once round a point of the plane, or zero times.
use Rattle.std.specs.Prelude.{◌≡◌, ◌⊎◌, Bool, ℕ, ℤ, pos, List, Contains, All, AllPairs, Option}
use Rattle.std.specs.List.{flat_map}
use Rattle.overlay_geom.specs.Plane.{Point, PlanePoint, Step, steps_of, winding}
use Rattle.overlay_geom.specs.Edges.{CountedEdge}
use Rattle.overlay_plane.specs.Turn.{Hand, IsOrbit}
use Rattle.overlay_plane.specs.Alternates.{Alternates}
use Rattle.overlay_plane.specs.BesideOrbits.{WalksAlong, winding_beside}
use Rattle.overlay_plane.specs.ContourWindings.{once_round}
use Rattle.overlay_plane.specs.RoledContours.{Contour}
use Rattle.overlay_plane.specs.BoundContours.{AreShapesFound, contours_bound, shapes_bound}
use Rattle.overlay_plane.specs.KeptContours.{AreKeptContours, KeepsAll}
use Rattle.overlay_plane.specs.ShapeWindings.{points_of_shapes, AreKeptOrThinned, steps_of_shapes}

-- round each point of the plane the steps wind once, as steps with their filled side by the hand, or zero times
abbrev pub WindsOnceOrNot : Hand → List Step → Type 0
WindsOnceOrNot filled steps = (p : PlanePoint) → (winding steps p ≡ once_round filled) ⊎ (winding steps p ≡ pos 0)

-- the steps of each shape's contours wind once or zero times
abbrev pub EachWindsOnceOrNot : Hand → List (List (List Point)) → Type 0
EachWindsOnceOrNot filled shapes = All (λ shape. WindsOnceOrNot filled (flat_map steps_of shape)) shapes

-- on the filled sides of a walk's steps, the winding of the steps taken is constant
abbrev pub HasOneWinding : Hand → List CountedEdge → (taken walk : List Step) → Type 0
HasOneWinding filled es taken walk = (s t : Step) → Contains walk s → Contains walk t →
    winding_beside filled es taken s ≡ winding_beside filled es taken t

-- an orbit has equal windings, by each hand, beside two steps that it leaves, where one ends where the other begins
abbrev pub OneWindingPastOrbits : Type 0
OneWindingPastOrbits = (es : List CountedEdge) (steps : List Step) → WalksAlong es steps → Alternates steps →
    (hand : Hand) (walk : List Step) → IsOrbit steps hand walk → (s t : Step) → Contains steps s → Contains steps t →
    ¬ (Contains walk s) → ¬ (Contains walk t) → s.to ≡ t.from →
    (side : Hand) → winding_beside side es walk s ≡ winding_beside side es walk t

-- the shapes to which all contours are bound wind once or zero times, with each contour thinned or not
abbrev pub EachShapeWindsOnceOrNot : Type 0
EachShapeWindsOnceOrNot = (holds : ℤ → ℤ → Bool) (subj clip : CountedEdge → ℤ) (es : List CountedEdge)
    (filled : Hand) (in_groups : Bool) (keeps : List Step → Bool) (contours : List Contour) →
    AreKeptContours holds subj clip es filled in_groups keeps contours → KeepsAll keeps →
    (shapes : List (Option ℕ)) → AreShapesFound filled contours shapes →
    (as_given : Bool) (result : List (List (List Point))) →
    AreKeptOrThinned as_given (points_of_shapes (shapes_bound (contours_bound contours shapes))) result →
    EachWindsOnceOrNot filled result

-- where such shapes wind once or zero times together, no two of them wind there
abbrev pub NoTwoWindRoundOnePoint : Type 0
NoTwoWindRoundOnePoint = (filled : Hand) (shapes : List (List (List Point))) → EachWindsOnceOrNot filled shapes →
    (p : PlanePoint) →
    (winding (steps_of_shapes shapes) p ≡ once_round filled) ⊎ (winding (steps_of_shapes shapes) p ≡ pos 0) →
    AllPairs (λ s t. (winding (flat_map steps_of s) p ≡ pos 0) ⊎ (winding (flat_map steps_of t) p ≡ pos 0)) shapes
