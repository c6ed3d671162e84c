-- Contours at the places of shapes, shape by shape.
use Rattle.std.specs.Prelude.{◌<◌, ℕ, ◌==◌, cond, List, All, length}
use Rattle.overlay_plane.specs.RoledContours.{Role, outline, own_hole}

-- the role of the contour at a place of the shape with this number: the outline comes first
abbrev pub role_at : ℕ → ℕ → Role
role_at number i = cond (i == 0) (outline number) (own_hole number)

-- each list has a place
abbrev pub AreBegun : List (List ℕ) → Type 0
AreBegun places = All (λ ps. 0 < length ps) places
