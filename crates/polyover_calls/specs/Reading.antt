-- What arrays hold, and why they are not read.
use Rattle.std.specs.Prelude.{◌≡◌, ◌≢◌, ℕ, ◌%◌, ℤ, List, All, true, false, map, length}
use Rattle.overlay_geom.specs.Flat.{paths_in}
use Rattle.overlay_geom.specs.Numbers.{Within}
use Rattle.overlay_geom.specs.Plane.{Point}
use Rattle.polyover_calls.specs.Arrays.{points_of, ranges_from, are_ends}
use Rattle.polyover_calls.specs.declared.fault.Fault.{Fault}
use Rattle.polyover_calls.specs.declared.fault.Fault.TheVariants.{Memory, Ends, Range}

-- each coordinate is in the coordinate range
abbrev pub AreWithin : {I : Type 0} → (I → ℤ) → ℕ → List I → Type 0
AreWithin whole limit cs = All (Within limit) (map whole cs)

-- the contours up to the ends, as whole points
abbrev pub contours_at : {I : Type 0} → (I → ℤ) → List I → List ℕ → List (List Point)
contours_at whole cs ends = paths_in whole (points_of cs) (ranges_from 0 ends)

-- the ends part the coordinates, which are in range
pub record AreContours {I : Type 0} (whole : I → ℤ) (limit : ℕ) (cs : List I) (ends : List ℕ) : Type 0 where
  pub fit : are_ends ends (length cs) ≡ true
  pub within : AreWithin whole limit cs

-- the coordinates are an even count, and in range
pub record ArePoints {I : Type 0} (whole : I → ℤ) (limit : ℕ) (cs : List I) : Type 0 where
  pub even : length cs % 2 ≡ 0
  pub within : AreWithin whole limit cs

-- what is wrong with arrays of contours; that memory was refused is no fault of theirs
abbrev pub HaveOwnFault : {I : Type 0} → (I → ℤ) → ℕ → List I → List ℕ → Fault → Type 0
HaveOwnFault whole limit cs ends Memory = ⊥
HaveOwnFault whole limit cs ends Ends = are_ends ends (length cs) ≡ false
HaveOwnFault whole limit cs ends Range = (are_ends ends (length cs) ≡ true) × ¬ (AreWithin whole limit cs)

-- why contours are not read: for want of memory they fit and are in range
abbrev pub HaveFault : {I : Type 0} → (I → ℤ) → ℕ → List I → List ℕ → Fault → Type 0
HaveFault whole limit cs ends Memory = AreContours whole limit cs ends
HaveFault whole limit cs ends Ends = HaveOwnFault whole limit cs ends Ends
HaveFault whole limit cs ends Range = HaveOwnFault whole limit cs ends Range

-- what is wrong with an array of points
abbrev pub PointsHaveOwnFault : {I : Type 0} → (I → ℤ) → ℕ → List I → Fault → Type 0
PointsHaveOwnFault whole limit cs Memory = ⊥
PointsHaveOwnFault whole limit cs Ends = length cs % 2 ≢ 0
PointsHaveOwnFault whole limit cs Range = (length cs % 2 ≡ 0) × ¬ (AreWithin whole limit cs)
