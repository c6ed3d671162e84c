-- Paths in arrays of a caller.
use Rattle.std.specs.Prelude.{◌≡◌, ◌≤◌, ℕ, ℤ, List, length}
use Rattle.std.specs.declared.ops.Range.{Range}
use Rattle.overlay_geom.specs.Flat.{paths_in}
use Rattle.overlay_geom.specs.Packed.{IsPacked}
use Rattle.overlay_geom.specs.Plane.{Point}
use Rattle.overlay_geom.specs.declared.point.IntPoint.{IntPoint}
use Rattle.polyover_calls.specs.Arrays.{coordinates_of, ends_of, written_over}
use Rattle.polyover_calls.specs.Put.{IsPutSo, EndsInto}
use Rattle.polyover_calls.specs.declared.path_counts.PathCounts.{PathCounts}
use Rattle.polyover_calls.specs.declared.status.Status.{Status}

-- paths in arrays: the coordinates, and the ends of paths among the points
pub record FlatPaths (I : Type 0) : Type 0 where
  pub coordinates : List I
  pub ends : List ℕ

abbrev pub flat_paths : {I : Type 0} → List I → List ℕ → FlatPaths I
flat_paths coordinates ends = record { coordinates = coordinates; ends = ends }

-- the arrays that a caller has for paths, and where their counts go
pub record PathRoom (I : Type 0) : Type 0 where
  pub arrays : FlatPaths I
  pub counts : PathCounts

abbrev pub path_room : {I : Type 0} → List I → List ℕ → PathCounts → PathRoom I
path_room coordinates ends counts = record { arrays = flat_paths coordinates ends; counts = counts }

-- the paths stand in the arrays, one behind the other
pub record ArePathsFlattened {I : Type 0} (whole : I → ℤ) (paths : List (List Point)) (flat : FlatPaths I) : Type 0
  where
    pub points : List (IntPoint I)
    pub ranges : List (Range ℕ)
    pub these : paths_in whole points ranges ≡ paths
    pub packed : IsPacked points ranges
    pub coordinates : flat.coordinates ≡ coordinates_of points
    pub ends : flat.ends ≡ ends_of ranges

-- how much there is
abbrev pub path_counts_of : {I : Type 0} → FlatPaths I → PathCounts
path_counts_of flat = record { coordinates = length flat.coordinates; paths = length flat.ends }

-- each array has a place for each item
pub record HasPathRoom {I : Type 0} (flat room : FlatPaths I) : Type 0 where
  pub coordinates : length flat.coordinates ≤ length room.coordinates
  pub ends : length flat.ends ≤ length room.ends

-- the arrays with the items in their first places
abbrev pub paths_written_into : {I : Type 0} → FlatPaths I → FlatPaths I → FlatPaths I
paths_written_into flat room = record {
  coordinates = written_over flat.coordinates room.coordinates;
  ends = written_over flat.ends room.ends;
}

-- what becomes of the arrays where paths are there: these are written, or the arrays are too small and stay; the counts
-- are those of the paths
abbrev pub ArePathsPut : {I : Type 0} → FlatPaths I → PathRoom I → PathRoom I → Status → Type 0
ArePathsPut flat old new = IsPutSo (HasPathRoom flat old.arrays)
    (record { arrays = paths_written_into flat old.arrays; counts = path_counts_of flat })
    (record { arrays = old.arrays; counts = path_counts_of flat }) new

-- such paths stand in the arrays
pub record AreFlatPaths {I : Type 0} (IsAnswer : List (List Point) → Type 0) (whole : I → ℤ) (flat : FlatPaths I) :
    Type 0 where
  pub paths : List (List Point)
  pub answer : IsAnswer paths
  pub flattened : ArePathsFlattened whole paths flat

-- so a call ends: such paths are put into the arrays, or it is refused
abbrev pub EndsWithPaths : {I : Type 0} → (List (List Point) → Type 0) → (Status → Type 0) → (I → ℤ) → PathRoom I →
    PathRoom I → Status → Type 0
EndsWithPaths IsAnswer refused whole = EndsInto (AreFlatPaths IsAnswer whole) ArePathsPut refused
