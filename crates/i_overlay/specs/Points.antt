-- The leftmost lowest point of a contour.
use Rattle.std.specs.Prelude.{◌≡◌, false, List, Contains}
use Rattle.overlay_geom.specs.Plane.{Point, point_lt}

-- no point of the list is smaller than p
abbrev pub IsLeast : List Point → Point → Type 0
IsLeast ps p = (q : Point) → Contains ps q → point_lt q p ≡ false
