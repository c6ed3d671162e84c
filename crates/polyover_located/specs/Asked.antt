-- Where points in arrays lie in shapes as they are given.
use Rattle.std.specs.Prelude.{◌≡◌, ◌⊎◌, ℕ, ℤ, List, map}
use Rattle.overlay_geom.specs.Plane.{Point}
use Rattle.overlay_geom.specs.Points.{plain_points}
use Rattle.overlay_located.specs.GivenShapes.{GivenShape, TellsLocation}
use Rattle.overlay_relate.specs.Answers.{AnswersWhere}
use Rattle.overlay_relate.specs.declared.location.PointLocation.{PointLocation}
use Rattle.polyover_calls.specs.Arrays.{points_of, written_over}
use Rattle.polyover_calls.specs.Located.{number_of}
use Rattle.polyover_calls.specs.Prepared.{HaveRoom, IsAskingRefused}
use Rattle.polyover_calls.specs.Reading.{ArePoints}
use Rattle.polyover_calls.specs.declared.status.Status.{Status}
use Rattle.polyover_calls.specs.declared.status.Status.TheVariants.{Done}
use Rattle.polyover_located.specs.Held.{ExactParts, shape_of}

-- the numbers tell where each point lies in the shape
pub record AreToldOf (shape : GivenShape) (points : List Point) (told : List ℕ) : Type 0 where
  pub locations : List PointLocation
  pub lie : AnswersWhere (TellsLocation shape) points locations
  pub numbers : told ≡ map number_of locations

-- the first places get such numbers
pub record AreLocatedIn {I : Type 0} (whole : I → ℤ) (shape : GivenShape) (points : List I)
    (old new : List ℕ) : Type 0 where
  pub numbers : List ℕ
  pub tell : AreToldOf shape (plain_points whole (points_of points)) numbers
  pub written : new ≡ written_over numbers old

-- how asking ends: the locations are written, or it is refused, and nothing is
abbrev pub ExactAskingEnds : {I : Type 0} → (I → ℤ) → ℕ → ExactParts → List I → (old new : List ℕ) → Status → Type 0
ExactAskingEnds whole limit p points old new s =
    ((s ≡ Done) × (ArePoints whole limit points
    × (HaveRoom points old × AreLocatedIn whole (shape_of p) points old new)))
    ⊎ ((new ≡ old) × IsAskingRefused whole limit points old s)
