-- Paths added to flat lists, and packed shapes.
use Rattle.std.specs.Prelude.{◌≡◌, ℕ, ℤ, List, ◌++◌, length}
use Rattle.std.specs.declared.ops.Range.{Range}
use Rattle.overlay_geom.specs.Flat.{paths_in}
use Rattle.overlay_geom.specs.Packed.{AreBehind, IsPacked}
use Rattle.overlay_geom.specs.Plane.{Point}
use Rattle.overlay_geom.specs.declared.point.IntPoint.{IntPoint}

-- the new points and ranges extend the old: the added ranges follow each other from the end of the old points, and
-- their paths are `added`
pub record ArePathsAdded {I : Type 0} (whole : I → ℤ) (old : List (IntPoint I)) (old_ranges : List (Range ℕ))
    (added : List (List Point)) (new : List (IntPoint I)) (new_ranges : List (Range ℕ)) : Type 0 where
  pub points : List (IntPoint I)
  pub longer : new ≡ old ++ points
  pub ranges : List (Range ℕ)
  pub more : new_ranges ≡ old_ranges ++ ranges
  pub behind : AreBehind (length old) ranges (length new)
  pub paths : paths_in whole new ranges ≡ added

-- each point is in one range of points, and each of these in one range of paths, in their order
pub record AreShapesPacked {I : Type 0} (points : List (IntPoint I)) (paths shapes : List (Range ℕ)) : Type 0 where
  pub paths_packed : IsPacked points paths
  pub shapes_packed : IsPacked paths shapes
