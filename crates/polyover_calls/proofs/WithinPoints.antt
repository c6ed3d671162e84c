-- Points of coordinates in range are in range, and so are contours of such points.
use Rattle.std.proofs.Common.{ℕ, ℤ, List, [], ◌∷◌, All, Option, Some, None, map}
use Rattle.std.proofs.lemmas.List.Elements.{All-nil, All-cons, All-head, All-tail}
use Rattle.std.specs.declared.ops.Range.{Range}
use Rattle.overlay_geom.proofs.Mapped.{All-mapped_range}
use Rattle.overlay_geom.specs.Flat.{paths_in, part_in}
use Rattle.overlay_geom.specs.Numbers.{Within}
use Rattle.overlay_geom.specs.Points.{plain_point, plain_points, InRange, AllInRange}
use Rattle.overlay_geom.specs.declared.point.IntPoint.{IntPoint}
use Rattle.polyover_calls.specs.Arrays.{points_behind, points_of}
use Rattle.polyover_calls.specs.Reading.{AreWithin}

-- the x that may stand before is in range
abbrev IsWithinIfAny : {I : Type 0} → (I → ℤ) → ℕ → Option I → Type 0
IsWithinIfAny whole limit None = Unit {0}
IsWithinIfAny whole limit (Some x) = Within limit (whole x)

points_behind_within : {I : Type 0} (whole : I → ℤ) (limit : ℕ) (before : Option I) (cs : List I)
    → IsWithinIfAny whole limit before → AreWithin whole limit cs
    → AllInRange limit (plain_points whole (points_behind before cs))
points_behind_within whole limit before [] within all = All-nil (InRange limit)
points_behind_within whole limit None (c ∷ cs) within all = points_behind_within whole limit (Some c) cs
    (All-head (Within limit) (whole c) (map whole cs) all) (All-tail (Within limit) (whole c) (map whole cs) all)
points_behind_within whole limit (Some x) (c ∷ cs) within all =
    All-cons (InRange limit) (record { x = whole x; y = whole c }) (plain_points whole (points_behind None cs))
    (record { x = within; y = All-head (Within limit) (whole c) (map whole cs) all })
    (points_behind_within whole limit None cs tt (All-tail (Within limit) (whole c) (map whole cs) all))

pub points_within : {I : Type 0} (whole : I → ℤ) (limit : ℕ) (cs : List I) → AreWithin whole limit cs
    → AllInRange limit (plain_points whole (points_of cs))
points_within whole limit cs all = points_behind_within whole limit None cs tt all

pub contours_within : {I : Type 0} (whole : I → ℤ) (limit : ℕ) (ps : List (IntPoint I)) (ranges : List (Range ℕ))
    → AllInRange limit (plain_points whole ps) → All (AllInRange limit) (paths_in whole ps ranges)
contours_within whole limit ps [] all = All-nil (AllInRange limit)
contours_within whole limit ps (r ∷ rs) all =
    All-cons (AllInRange limit) (plain_points whole (part_in ps r)) (paths_in whole ps rs)
    (All-mapped_range (InRange limit) (plain_point whole) ps _ _ all) (contours_within whole limit ps rs all)
