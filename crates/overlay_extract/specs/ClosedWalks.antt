-- Walks from point to point, and the loops into which a closed one is cut at the points that it visits more than once.
use Rattle.std.specs.Prelude.{◌≡◌, ℕ, ◌<◌, false, List, [], ◌∷◌, ◌++◌, length, take, drop, All, Contains}
use Rattle.std.specs.Prelude.{Option, None, Some}
use Rattle.std.specs.List.Sorted.{IsPermutation}
use Rattle.overlay_geom.specs.Plane.{Point, Step, point_eq, points_of, reversed_step, backward}
use Rattle.overlay_plane.specs.Contours.{all_steps}
use Rattle.overlay_plane.specs.Groups.{HasEachPointOnce, IsSimpleContour}
use Rattle.overlay_walk.specs.Places.{step_at}

-- the steps lead from p to q: the first one begins in p, each other where the one before it ends, and the last ends in
-- q
abbrev pub LeadsTo : Point → List Step → Point → Type 0
LeadsTo p [] q = p ≡ q
LeadsTo p (s ∷ ss) q = (s.from ≡ p) × LeadsTo s.to ss q

-- the walk leads back to where it begins
pub record IsClosedWalk (walk : List Step) : Type 0 where
  pub start : Point
  pub leads_back : LeadsTo start walk start

-- the step leads from one point to another
abbrev pub HasLength : Step → Type 0
HasLength s = ¬ (s.from ≡ s.to)

-- with each step the step back is in the list
abbrev pub HasEachBothWays : List Step → Type 0
HasEachBothWays steps = All (λ s. Contains steps (reversed_step s)) steps

-- the walk is cut into the loops: each is a contour that visits no point twice, and each step of the walk stands in one
-- of them; but for some steps that are passed there and back
pub record IsCutIntoLoops (walk : List Step) (loops : List (List Step)) : Type 0 where
  pub dropped : List Step
  pub each_once : IsPermutation walk (all_steps loops ++ dropped)
  pub both_ways : HasEachBothWays dropped
  pub simple : All IsSimpleContour loops

-- the same loop passed back, begun a step later: the point at which it begins is the last one that it visited, and so
-- the points are the same in the opposite order
abbrev pub turned_loop : List Step → List Step
turned_loop loop = drop 1 (backward loop) ++ take 1 (backward loop)

-- ---- on the way

-- what is walked from the start to the point reached is cut into the loops, but for a path from the start to the point
-- reached that visits no point twice before it
pub record IsCutSoFar (start reached : Point) (walked path : List Step) (loops : List (List Step)) : Type 0 where
  pub dropped : List Step
  pub each_once : IsPermutation walked (all_steps loops ++ (dropped ++ path))
  pub both_ways : HasEachBothWays dropped
  pub simple : All IsSimpleContour loops
  pub leads : LeadsTo start path reached
  pub long : All HasLength path
  pub points_once : HasEachPointOnce (points_of path)

-- none of the steps begins in the point
abbrev pub NoneLeaves : Point → List Step → Type 0
NoneLeaves v steps = All (λ s. point_eq s.from v ≡ false) steps

-- the place of a step that begins in the point, or that there is none
abbrev pub IsPlaceLeft : List Step → Point → Option ℕ → Type 0
IsPlaceLeft steps v None = NoneLeaves v steps
IsPlaceLeft steps v (Some k) = (k < length steps) × ((step_at steps k).from ≡ v)
