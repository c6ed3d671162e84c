-- What arrays hold is determined by them, and they by what they hold.
use Rattle.std.specs.Prelude.{◌≡◌, ℕ, ◌%◌, ℤ, List, [], ◌∷◌, length, Result, MatchResult}
use Rattle.std.specs.declared.ops.Range.{Range}
use Rattle.overlay_geom.specs.Flat.{paths_in, shapes_in}
use Rattle.overlay_geom.specs.FlatShapes.{AreShapesPacked}
use Rattle.overlay_geom.specs.Packed.{IsPacked}
use Rattle.overlay_geom.specs.declared.point.IntPoint.{IntPoint}
use Rattle.polyover_calls.specs.Arrays.{points_of, coordinates_of, ranges_from, ends_of}
use Rattle.polyover_calls.specs.Reading.{AreContours, ArePoints, HaveOwnFault, PointsHaveOwnFault}
use Rattle.polyover_calls.specs.declared.fault.Fault.{Fault}

-- ---- back again

-- points are those of their coordinates, and an even count of coordinates are those of their points
abbrev pub PointsComeBack : Type 0 → Type 0
PointsComeBack I = (ps : List (IntPoint I)) → points_of (coordinates_of ps) ≡ ps

abbrev pub CoordinatesComeBack : Type 0 → Type 0
CoordinatesComeBack I = (cs : List I) → length cs % 2 ≡ 0 → coordinates_of (points_of cs) ≡ cs

-- each range begins where the one before it ends, and the first one at n
abbrev pub FollowFrom : ℕ → List (Range ℕ) → Type 0
FollowFrom n [] = Unit {0}
FollowFrom n (r ∷ rs) = (r.start ≡ n) × FollowFrom r.end rs

-- ends are those of the ranges up to them, and such ranges are those up to their ends
abbrev pub EndsComeBack : Type 0
EndsComeBack = (n : ℕ) (ends : List ℕ) → ends_of (ranges_from n ends) ≡ ends

abbrev pub RangesComeBack : Type 0
RangesComeBack = (n : ℕ) (rs : List (Range ℕ)) → FollowFrom n rs → ranges_from n (ends_of rs) ≡ rs

-- ---- one answer

-- two answers whether the arrays have contours are one
abbrev pub OneTest : {I : Type 0} → (I → ℤ) → ℕ → Type 0
OneTest {I = I} whole limit = (cs : List I) (ends : List ℕ) (first second : Result (Unit {0}) Fault) →
    MatchResult first (λ _. AreContours whole limit cs ends) (HaveOwnFault whole limit cs ends) →
    MatchResult second (λ _. AreContours whole limit cs ends) (HaveOwnFault whole limit cs ends) → first ≡ second

-- and two whether the array has points
abbrev pub OneTestOfPoints : {I : Type 0} → (I → ℤ) → ℕ → Type 0
OneTestOfPoints {I = I} whole limit = (cs : List I) (first second : Result (Unit {0}) Fault) →
    MatchResult first (λ _. ArePoints whole limit cs) (PointsHaveOwnFault whole limit cs) →
    MatchResult second (λ _. ArePoints whole limit cs) (PointsHaveOwnFault whole limit cs) → first ≡ second

-- ---- one packing

-- paths that stand packed in two lists of points are the same in both only where these are one, and so are the ranges
abbrev pub OnePacking : {I : Type 0} → (I → ℤ) → Type 0
OnePacking {I = I} whole = (points others : List (IntPoint I)) (ranges more : List (Range ℕ)) →
    IsPacked points ranges → IsPacked others more → paths_in whole points ranges ≡ paths_in whole others more →
    (points ≡ others) × (ranges ≡ more)

-- so are shapes
abbrev pub OnePackingOfShapes : {I : Type 0} → (I → ℤ) → Type 0
OnePackingOfShapes {I = I} whole = (points others : List (IntPoint I)) (contours more shapes rest : List (Range ℕ)) →
    AreShapesPacked points contours shapes → AreShapesPacked others more rest →
    shapes_in whole points contours shapes ≡ shapes_in whole others more rest →
    (points ≡ others) × (contours ≡ more) × (shapes ≡ rest)
