-- Steps cut with groups: the orbits by the hand of the filled side, each cut once more by the hand of the empty side.
-- No contour made so visits a point twice, each lies in one group, and together they take each step once.
use Rattle.std.specs.Prelude.{◌≡◌, Bool, true, false, List, All, AllPairs, Contains, filter}
use Rattle.std.specs.List.Sorted.{IsPermutation}
use Rattle.overlay_geom.specs.Plane.{Point, Step, point_eq, points_of}
use Rattle.overlay_geom.specs.Edges.{CountedEdge}
use Rattle.overlay_plane.specs.Turn.{IsOrbit, Hand, other_hand}
use Rattle.overlay_plane.specs.Alternates.{Alternates}
use Rattle.overlay_plane.specs.BesideOrbits.{WalksAlong, HasEachOnce}
use Rattle.overlay_plane.specs.Contours.{IsCutInto, all_steps, IsContour}
use Rattle.overlay_plane.specs.Binding.{is_hole}
use Rattle.overlay_plane.specs.RoledContours.{Contour, IsCutInGroups}
use Rattle.overlay_plane.specs.BoundContours.{walks_in}

-- no point occurs twice in the list
abbrev pub HasEachPointOnce : List Point → Type 0
HasEachPointOnce points = AllPairs (λ p q. point_eq p q ≡ false) points

-- the walk is an orbit by the empty hand in a group, which is an orbit by the filled hand in the steps
pub record IsInsideAGroup (filled : Hand) (steps walk : List Step) : Type 0 where
  pub group : List Step
  pub grouped : IsOrbit steps filled group
  pub inside : IsOrbit group (other_hand filled) walk

-- the walk is a contour that visits no point twice
pub record IsSimpleContour (walk : List Step) : Type 0 where
  pub contour : IsContour walk
  pub points_once : HasEachPointOnce (points_of walk)

-- a walk inside a group is such a contour
abbrev pub WalksInsideGroupsAreSimple : Type 0
WalksInsideGroupsAreSimple = (es : List CountedEdge) (steps : List Step) → WalksAlong es steps → Alternates steps →
    (filled : Hand) (walk : List Step) → IsInsideAGroup filled steps walk → IsSimpleContour walk

-- the walk is an orbit by the empty hand in one of the groups that are holes
pub record IsInsideOne (filled : Hand) (groups : List (List Step)) (walk : List Step) : Type 0 where
  pub group : List Step
  pub among : Contains groups group
  pub hole : is_hole filled group ≡ true
  pub inside : IsOrbit group (other_hand filled) walk

-- where all steps of hole groups are cut together, each orbit lies inside one of them
abbrev pub OrbitsOfHoleGroupsAreInsideOne : Type 0
OrbitsOfHoleGroupsAreInsideOne = (es : List CountedEdge) (steps : List Step) → WalksAlong es steps → Alternates steps →
    (filled : Hand) (groups : List (List Step)) →
    IsCutInto (λ s. filled) steps groups → (walk : List Step) →
    IsOrbit (all_steps (filter (is_hole filled) groups)) (other_hand filled) walk → IsInsideOne filled groups walk

-- each contour of a cut with groups is inside a group
abbrev pub ContoursAreInsideGroups : Type 0
ContoursAreInsideGroups = (es : List CountedEdge) (steps : List Step) → WalksAlong es steps → Alternates steps →
    (filled : Hand) (keeps : List Step → Bool) (contours : List Contour) →
    IsCutInGroups filled keeps steps contours → All (λ c. IsInsideAGroup filled steps c.steps) contours

-- where all contours pass the test, a cut with groups takes each step exactly once
abbrev pub GroupedCutsTakeEachOnce : Type 0
GroupedCutsTakeEachOnce = (steps : List Step) → Alternates steps → HasEachOnce steps →
    (filled : Hand) (keeps : List Step → Bool) → ((walk : List Step) → IsContour walk → keeps walk ≡ true) →
    (contours : List Contour) → IsCutInGroups filled keeps steps contours →
    IsPermutation steps (all_steps (walks_in contours))
