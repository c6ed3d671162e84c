-- An answer in arrays of a caller.
use Rattle.std.specs.Prelude.{◌≡◌, ◌≤◌, ℕ, ℤ, List, length}
use Rattle.std.specs.declared.ops.Range.{Range}
use Rattle.overlay_geom.specs.Flat.{shapes_in}
use Rattle.overlay_geom.specs.FlatShapes.{AreShapesPacked}
use Rattle.overlay_geom.specs.Plane.{Point}
use Rattle.overlay_geom.specs.declared.point.IntPoint.{IntPoint}
use Rattle.polyover_calls.specs.Arrays.{coordinates_of, ends_of, written_over}
use Rattle.polyover_calls.specs.Put.{IsPutSo, EndsInto}
use Rattle.polyover_calls.specs.declared.counts.Counts.{Counts}
use Rattle.polyover_calls.specs.declared.status.Status.{Status}

-- shapes in arrays: the coordinates, the ends of contours among the points, and those of shapes among the contours
pub record Flat (I : Type 0) : Type 0 where
  pub coordinates : List I
  pub contour_ends : List ℕ
  pub shape_ends : List ℕ

abbrev pub flat_shapes : {I : Type 0} → List I → List ℕ → List ℕ → Flat I
flat_shapes coordinates contour_ends shape_ends =
    record { coordinates = coordinates; contour_ends = contour_ends; shape_ends = shape_ends }

-- the arrays that a caller has for an answer, and where its counts go
pub record Room (I : Type 0) : Type 0 where
  pub arrays : Flat I
  pub counts : Counts

abbrev pub shape_room : {I : Type 0} → List I → List ℕ → List ℕ → Counts → Room I
shape_room coordinates contour_ends shape_ends counts =
    record { arrays = flat_shapes coordinates contour_ends shape_ends; counts = counts }

-- the shapes stand in the arrays, one behind the other
pub record AreFlattened {I : Type 0} (whole : I → ℤ) (shapes : List (List (List Point))) (flat : Flat I) : Type 0 where
  pub points : List (IntPoint I)
  pub contours : List (Range ℕ)
  pub ranges : List (Range ℕ)
  pub these : shapes_in whole points contours ranges ≡ shapes
  pub packed : AreShapesPacked points contours ranges
  pub coordinates : flat.coordinates ≡ coordinates_of points
  pub contour_ends : flat.contour_ends ≡ ends_of contours
  pub shape_ends : flat.shape_ends ≡ ends_of ranges

-- how much there is
abbrev pub counts_of : {I : Type 0} → Flat I → Counts
counts_of flat = record {
  coordinates = length flat.coordinates;
  contours = length flat.contour_ends;
  shapes = length flat.shape_ends;
}

-- each array has a place for each item
pub record HasRoom {I : Type 0} (flat room : Flat I) : Type 0 where
  pub coordinates : length flat.coordinates ≤ length room.coordinates
  pub contours : length flat.contour_ends ≤ length room.contour_ends
  pub shapes : length flat.shape_ends ≤ length room.shape_ends

-- the arrays with the items in their first places
abbrev pub written_into : {I : Type 0} → Flat I → Flat I → Flat I
written_into flat room = record {
  coordinates = written_over flat.coordinates room.coordinates;
  contour_ends = written_over flat.contour_ends room.contour_ends;
  shape_ends = written_over flat.shape_ends room.shape_ends;
}

-- what becomes of the arrays where an answer is there: it is written, or they are too small and stay; the counts are
-- those of the answer
abbrev pub ArePut : {I : Type 0} → Flat I → Room I → Room I → Status → Type 0
ArePut flat old new = IsPutSo (HasRoom flat old.arrays)
    (record { arrays = written_into flat old.arrays; counts = counts_of flat })
    (record { arrays = old.arrays; counts = counts_of flat }) new

-- such shapes stand in the arrays
pub record IsFlat {I : Type 0} (IsAnswer : List (List (List Point)) → Type 0) (whole : I → ℤ)
    (flat : Flat I) : Type 0 where
  pub shapes : List (List (List Point))
  pub answer : IsAnswer shapes
  pub flattened : AreFlattened whole shapes flat

-- so a call ends: such shapes are put into the arrays, or it is refused
abbrev pub EndsWithShapes : {I : Type 0} → (List (List (List Point)) → Type 0) → (Status → Type 0) → (I → ℤ) →
    Room I → Room I → Status → Type 0
EndsWithShapes IsAnswer refused whole = EndsInto (IsFlat IsAnswer whole) ArePut refused
