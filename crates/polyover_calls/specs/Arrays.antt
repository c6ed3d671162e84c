-- Points, ranges and items in plain arrays.
use Rattle.std.specs.Prelude.{ℕ, ◌/◌, ◌%◌, ◌==◌, ◌&&◌, List, [], ◌∷◌, ◌++◌, Bool, Option, Some, None}
use Rattle.std.specs.Prelude.{drop, length, leb}
use Rattle.std.specs.declared.ops.Range.{Range}
use Rattle.overlay_geom.specs.declared.point.IntPoint.{IntPoint}

-- the points of coordinates, each x followed by its y, where an x may stand before them; one that is left over is none
abbrev pub points_behind : {I : Type 0} → Option I → List I → List (IntPoint I)
points_behind before [] = []
points_behind None (c ∷ cs) = points_behind (Some c) cs
points_behind (Some x) (c ∷ cs) = record { x = x; y = c } ∷ points_behind None cs

abbrev pub points_of : {I : Type 0} → List I → List (IntPoint I)
points_of cs = points_behind None cs

-- the coordinates of points
abbrev pub coordinates_of : {I : Type 0} → List (IntPoint I) → List I
coordinates_of [] = []
coordinates_of (p ∷ ps) = p.x ∷ p.y ∷ coordinates_of ps

-- a range up to each end, from the one before it
abbrev pub ranges_from : ℕ → List ℕ → List (Range ℕ)
ranges_from n [] = []
ranges_from n (end ∷ ends) = record { start = n; end = end } ∷ ranges_from end ends

-- the end of each range
abbrev pub ends_of : List (Range ℕ) → List ℕ
ends_of [] = []
ends_of (r ∷ rs) = r.end ∷ ends_of rs

-- no end is below the one before it, and the last one is the count
abbrev pub rise_from : ℕ → List ℕ → ℕ → Bool
rise_from n [] count = n == count
rise_from n (end ∷ ends) count = leb n end && rise_from end ends count

-- the ends part so many coordinates, an even count, into contours
abbrev pub are_ends : List ℕ → ℕ → Bool
are_ends ends coordinates = (coordinates % 2 == 0) && rise_from 0 ends (coordinates / 2)

-- the room with the items in its first places
abbrev pub written_over : {X : Type 0} → List X → List X → List X
written_over items room = items ++ drop (length items) room
