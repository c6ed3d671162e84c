-- The area of a contour, and the test whether it reaches a minimum.
use Rattle.std.specs.Prelude.{ℕ, ◌/◌, Bool, ◌&&◌, nat_le, ℤ, pos, nat_abs, ◌+ℤ◌, ◌-ℤ◌, ◌*ℤ◌, List, [], ◌∷◌, length}
use Rattle.std.specs.Int.{Width, int_wrap}
use Rattle.overlay_geom.specs.Plane.{Point, Step, points_of}

-- the sum of the cross products of neighbouring points of a path that goes on from p and ends at the first point of the
-- closed list
abbrev pub cross_sum : Point → Point → List Point → ℤ
cross_sum first p [] = p.x *ℤ first.y -ℤ p.y *ℤ first.x
cross_sum first p (q ∷ qs) = (p.x *ℤ q.y -ℤ p.y *ℤ q.x) +ℤ cross_sum first q qs

-- twice the area of a closed list of points, positive where it runs counterclockwise
abbrev pub double_area : List Point → ℤ
double_area [] = pos 0
double_area (p ∷ ps) = cross_sum p p ps

-- the walk has three points or more, and its area reaches the minimum. The area is half of the absolute double area,
-- wrapped to the type in which areas are summed, rounded down
abbrev pub reaches : Width → ℕ → List Step → Bool
reaches width min walk = nat_le 3 (length walk) && nat_le min
    (nat_abs (int_wrap width (double_area (points_of walk))) / 2)
