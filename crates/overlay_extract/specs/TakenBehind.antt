-- Contours added to flat lists, each kept or thinned.
use Rattle.std.specs.Prelude.{◌≡◌, ℤ, ℕ, Bool, List, ◌++◌}
use Rattle.std.specs.List.{AllZip}
use Rattle.std.specs.declared.ops.Range.{Range}
use Rattle.overlay_geom.specs.FlatShapes.{ArePathsAdded}
use Rattle.overlay_geom.specs.Plane.{Point}
use Rattle.overlay_geom.specs.Points.{plain_points}
use Rattle.overlay_geom.specs.Thinned.{IsKeptOrThinned}
use Rattle.overlay_geom.specs.declared.point.IntPoint.{IntPoint}

-- behind the old points the new list has those of a contour, kept or thinned
pub record IsTakenBehind {I : Type 0} (whole : I → ℤ) (keep : Bool) (contour : List Point)
    (old new : List (IntPoint I)) : Type 0 where
  pub points : List (IntPoint I)
  pub longer : new ≡ old ++ points
  pub taken : IsKeptOrThinned keep contour (plain_points whole points)

-- the new points and ranges extend the old by those of several contours, each kept or thinned
pub record AreTakenBehind {I : Type 0} (whole : I → ℤ) (keep : Bool) (contours : List (List Point))
    (old : List (IntPoint I)) (old_ranges : List (Range ℕ)) (new : List (IntPoint I))
    (new_ranges : List (Range ℕ)) : Type 0 where
  pub paths : List (List Point)
  pub added : ArePathsAdded whole old old_ranges paths new new_ranges
  pub taken : AllZip (IsKeptOrThinned keep) contours paths
