-- Contours added to one list of points.
use Rattle.std.specs.Prelude.{◌≡◌, ℕ, ℤ, List, ◌++◌}
use Rattle.overlay_geom.specs.Plane.{Point}
use Rattle.overlay_geom.specs.Points.{plain_points, AllInRange}
use Rattle.overlay_geom.specs.Thinned.{IsThinned}
use Rattle.overlay_geom.specs.declared.point.IntPoint.{IntPoint}

-- behind the old points the new list has a thinning of the closed list, in range
pub record IsThinnedBehind {I : Type 0} (whole : I → ℤ) (limit : ℕ) (closed : List Point)
    (old new : List (IntPoint I)) : Type 0 where
  pub points : List (IntPoint I)
  pub longer : new ≡ old ++ points
  pub thinned : IsThinned closed (plain_points whole points)
  pub in_range : AllInRange limit (plain_points whole points)
