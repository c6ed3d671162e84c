-- Orbits of filled sides, the closed walks of which they consist, and the loops into which all of those are cut.
use Rattle.std.specs.Prelude.{◌≡◌, Bool, ℤ, List, [], ◌++◌, All, Contains}
use Rattle.std.specs.List.Sorted.{IsPermutation}
use Rattle.overlay_geom.specs.Plane.{Point, Step, reversed_step}
use Rattle.overlay_geom.specs.Edges.{CountedEdge}
use Rattle.overlay_plane.specs.Contours.{all_steps}
use Rattle.overlay_plane.specs.Groups.{IsSimpleContour}
use Rattle.overlay_plane.specs.Nodes.{IsBalancedArrangement}
use Rattle.overlay_plane.specs.Turn.{IsOrbit}
use Rattle.overlay_plane.specs.Turn.Hand.{left}
use Rattle.overlay_extract.specs.ClosedWalks.{LeadsTo, IsClosedWalk}
use Rattle.overlay_extract.specs.FilledSides.{filled_sides, IsInOneOrbit}
use Rattle.overlay_extract.specs.Loops.{AreLoops}

-- the walks are the orbits of the sides by the left hand
pub record AreOrbits (sides : List Step) (orbits : List (List Step)) : Type 0 where
  pub each_once : IsPermutation sides (all_steps orbits)
  pub are : All (IsOrbit sides left) orbits

-- any two steps of the walk lie in one orbit
abbrev pub LiesInOneOrbit : List Step → List Step → Type 0
LiesInOneOrbit sides walk = (s t : Step) → Contains walk s → Contains walk t → IsInOneOrbit sides s t

-- the walks are tours of the sides: each leads back to where it begins, and lies in one orbit
pub record AreTours (sides : List Step) (tours : List (List Step)) : Type 0 where
  pub each_once : IsPermutation sides (all_steps tours)
  pub closed : All IsClosedWalk tours
  pub one_orbit : All (LiesInOneOrbit sides) tours

-- one of the walks passes all the steps
pub record ArePassedByOne (walks : List (List Step)) (steps : List Step) : Type 0 where
  pub walk : List Step
  pub among : Contains walks walk
  pub passes : (s : Step) → Contains steps s → Contains walk s

-- one of the walks passes the step and the step back
pub record IsPassedBothWays (walks : List (List Step)) (s : Step) : Type 0 where
  pub walk : List Step
  pub among : Contains walks walk
  pub forth : Contains walk s
  pub back : Contains walk (reversed_step s)

-- the walks are cut into the loops: each is a contour that visits no point twice, and of one walk; each step of the
-- walks stands in one of them; but for some steps that a walk passes there and back
pub record AreCutIntoLoops (walks loops : List (List Step)) : Type 0 where
  pub dropped : List Step
  pub each_once : IsPermutation (all_steps walks) (all_steps loops ++ dropped)
  pub both_ways : All (IsPassedBothWays walks) dropped
  pub simple : All IsSimpleContour loops
  pub of_one : All (ArePassedByOne walks) loops

-- ---- laws

-- the loops into which tours of filled sides are cut are loops of the sides
abbrev pub ToursMakeLoops : Type 0
ToursMakeLoops = (fills : ℤ → Bool) (count : CountedEdge → ℤ) (es : List CountedEdge) →
    IsBalancedArrangement count es → (tours loops : List (List Step)) →
    AreTours (filled_sides fills count es) tours → AreCutIntoLoops tours loops →
    AreLoops (filled_sides fills count es) loops

-- ---- orbits as tours

-- the walks are split into the tours: each leads back to where it begins and is of one walk, and each step of the walks
-- stands in one tour
pub record AreSplitIntoTours (walks tours : List (List Step)) : Type 0 where
  pub each_once : IsPermutation (all_steps walks) (all_steps tours)
  pub closed : All IsClosedWalk tours
  pub of_one : All (ArePassedByOne walks) tours

-- the tours of orbits of the sides are tours of the sides
abbrev pub OrbitsMakeTours : Type 0
OrbitsMakeTours = (sides : List Step) (orbits tours : List (List Step)) → AreOrbits sides orbits →
    AreSplitIntoTours orbits tours → AreTours sides tours

-- ---- a closed walk, split

-- one walk is split into tours
pub record IsSplitInto (walk : List Step) (tours : List (List Step)) : Type 0 where
  pub each_once : IsPermutation walk (all_steps tours)
  pub closed : All IsClosedWalk tours

-- what is walked from the start to the point reached is split into the tours, but for the one under way, which is none
-- where the point reached is the start
pub record IsSplitSoFar (start reached : Point) (walked tour : List Step) (tours : List (List Step)) : Type 0 where
  pub steps : all_steps tours ++ tour ≡ walked
  pub closed : All IsClosedWalk tours
  pub leads : LeadsTo start tour reached
  pub at_start : reached ≡ start → tour ≡ []
