-- Where points in arrays lie in contours in arrays, as numbers.
use Rattle.std.specs.Prelude.{◌≡◌, ◌≤◌, ◌⊎◌, ℕ, ℤ, List, [], ◌∷◌, All, Some, length, map, take}
use Rattle.std.specs.List.{slice_get}
use Rattle.overlay_geom.specs.Plane.{Point}
use Rattle.overlay_geom.specs.Points.{plain_points}
use Rattle.overlay_geom.specs.Resolved.{IsResolved}
use Rattle.overlay_relate.specs.Answers.{AnswersWhere}
use Rattle.overlay_relate.specs.Locations.{IsLocatedAmong}
use Rattle.overlay_relate.specs.declared.location.PointLocation.{PointLocation}
use Rattle.overlay_relate.specs.declared.location.PointLocation.TheVariants.{Inside, Boundary, Outside}
use Rattle.polyover_calls.specs.Arrays.{points_of, written_over}
use Rattle.polyover_calls.specs.Reading.{ArePoints, PointsHaveOwnFault}
use Rattle.polyover_calls.specs.declared.fault.Fault.{Fault}
use Rattle.polyover_calls.specs.declared.fault.Fault.TheVariants as fault
use Rattle.polyover_calls.specs.Given.{Contours, paths_of, AreGiven, IsFaulty}
use Rattle.polyover_calls.specs.declared.status.Status.{Status}
use Rattle.polyover_calls.specs.declared.status.Status.TheVariants.{Done, Memory, BadEnds, OutOfRange}
use Rattle.polyover_calls.specs.declared.status.Status.TheVariants.{NotResolved, BadRule, BadFill, BadOption}
use Rattle.polyover_calls.specs.declared.status.Status.TheVariants.{NotSettled, TooManyEdges, TooSmall}

-- the number that C knows a location by
abbrev pub number_of : PointLocation → ℕ
number_of Outside = 0
number_of Inside = 1
number_of Boundary = 2

-- what a caller has for the answer: the places of numbers, and where the number of a contour goes
pub record Places : Type 0 where
  pub locations : List ℕ
  pub unresolved : ℕ

-- the path at this place is not resolved, and those before it are
pub record IsFirstUnresolved (paths : List (List Point)) (n : ℕ) : Type 0 where
  pub path : List Point
  pub here : slice_get paths n ≡ Some path
  pub before : All IsResolved (take n paths)
  pub unresolved : ¬ (IsResolved path)

-- the numbers tell where each point lies in the paths, as one shape
pub record AreNumbers (paths : List (List Point)) (points : List Point) (told : List ℕ) : Type 0 where
  pub locations : List PointLocation
  pub located : AnswersWhere (IsLocatedAmong (paths ∷ [])) points locations
  pub numbers : told ≡ map number_of locations

-- the contours and the points have no fault
pub record CanBeLocated {I : Type 0} (whole : I → ℤ) (limit : ℕ) (shape : Contours I) (points : List I) : Type 0 where
  pub given : AreGiven whole limit shape
  pub are_points : ArePoints whole limit points

-- the contours have a fault, or the points alone
abbrev pub CanNotBeLocated : {I : Type 0} → (I → ℤ) → ℕ → Contours I → List I → Fault → Type 0
CanNotBeLocated whole limit shape points f =
    IsFaulty whole limit shape f ⊎ (AreGiven whole limit shape × PointsHaveOwnFault whole limit points f)

-- a place for each point
abbrev pub HavePlaces : {I : Type 0} → List I → Places → Type 0
HavePlaces points room = length (points_of points) ≤ length room.locations

-- each contour is resolved, and the first places get numbers that tell where each point lies
pub record AreLocated {I : Type 0} (whole : I → ℤ) (shape : Contours I) (points : List I)
    (old new : Places) : Type 0 where
  pub resolved : All IsResolved (paths_of whole shape)
  pub numbers : List ℕ
  pub tell : AreNumbers (paths_of whole shape) (plain_points whole (points_of points)) numbers
  pub written : new ≡ record { locations = written_over numbers old.locations; unresolved = old.unresolved }

-- how it ends: with `NotResolved` the number of the first contour that is not resolved is written, with any status but
-- `Done` and this one nothing; memory is wanting only where all that is given has been tested but that
abbrev pub LocatingEnds : {I : Type 0} → (I → ℤ) → ℕ → Contours I → List I → Places → Places → Status → Type 0
LocatingEnds whole limit shape points old new Done = CanBeLocated whole limit shape points
    × (HavePlaces points old × AreLocated whole shape points old new)
LocatingEnds whole limit shape points old new Memory = (new ≡ old)
    × (CanBeLocated whole limit shape points × HavePlaces points old)
LocatingEnds whole limit shape points old new BadEnds = (new ≡ old)
    × CanNotBeLocated whole limit shape points fault.Ends
LocatingEnds whole limit shape points old new OutOfRange = (new ≡ old)
    × CanNotBeLocated whole limit shape points fault.Range
LocatingEnds whole limit shape points old new NotResolved = CanBeLocated whole limit shape points
    × (HavePlaces points old × (IsFirstUnresolved (paths_of whole shape) new.unresolved
    × (new.locations ≡ old.locations)))
LocatingEnds whole limit shape points old new BadRule = ⊥
LocatingEnds whole limit shape points old new BadFill = ⊥
LocatingEnds whole limit shape points old new BadOption = ⊥
LocatingEnds whole limit shape points old new NotSettled = ⊥
LocatingEnds whole limit shape points old new TooManyEdges = ⊥
LocatingEnds whole limit shape points old new TooSmall = (new ≡ old)
    × (CanBeLocated whole limit shape points × ¬ (HavePlaces points old))
