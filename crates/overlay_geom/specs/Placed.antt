-- The position of an edge relative to another edge's line, and tests whether two edges meet in ends alone.
use Rattle.std.specs.Prelude.{◌≡◌, ◌⊎◌, Bool, ◌&&◌, ◌||◌, pos, ◌<ℤ◌, ◌≤ℤ◌}
use Rattle.overlay_geom.specs.Plane.{Edge, point_eq, point_lt, cross_at}

-- both ends of f lie on e's line
abbrev pub IsAlong : Edge → Edge → Type 0
IsAlong e f = (cross_at e.a e.b f.a ≡ pos 0) × (cross_at e.a e.b f.b ≡ pos 0)

-- both ends of f lie strictly on one side of e's line
abbrev pub IsBeside : Edge → Edge → Type 0
IsBeside e f =
    ((pos 0 <ℤ cross_at e.a e.b f.a) × (pos 0 <ℤ cross_at e.a e.b f.b))
    ⊎ ((cross_at e.a e.b f.a <ℤ pos 0) × (cross_at e.a e.b f.b <ℤ pos 0))

-- the ends of f lie on different sides of e's line, or exactly one of them lies on it
abbrev pub IsAcross : Edge → Edge → Type 0
IsAcross e f =
    ((cross_at e.a e.b f.a ≤ℤ pos 0) × (pos 0 ≤ℤ cross_at e.a e.b f.b) × (cross_at e.a e.b f.a <ℤ cross_at e.a e.b f.b))
    ⊎ ((cross_at e.a e.b f.b ≤ℤ pos 0) × (pos 0 ≤ℤ cross_at e.a e.b f.a)
    × (cross_at e.a e.b f.b <ℤ cross_at e.a e.b f.a))

-- two collinear edges overlap: each begins before the other ends
abbrev pub do_overlap : Edge → Edge → Bool
do_overlap e f = point_lt e.a f.b && point_lt f.a e.b

-- an end of e is an end of f
abbrev pub share_end : Edge → Edge → Bool
share_end e f = point_eq e.a f.a || point_eq e.a f.b || point_eq e.b f.a || point_eq e.b f.b
