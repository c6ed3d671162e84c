-- Contours numbered in order: the outlines are numbered as they come, and each hole of a group has the number of an
-- outline before it.
use Rattle.std.specs.Prelude.{◌≡◌, ◌<◌, ℕ, suc, List, [], ◌∷◌, filter, length}
use Rattle.std.specs.Bool.{⊤}
use Rattle.overlay_plane.specs.RoledContours.{Role, outline, own_hole, free_hole, Contour, is_outline}

-- after n outlines, the next outline has number n, and a hole of a group has a smaller number
abbrev pub IsNumber : ℕ → Role → Type 0
IsNumber n (outline m) = m ≡ n
IsNumber n (own_hole m) = m < n
IsNumber n free_hole = ⊤

-- the number of outlines after one more contour
abbrev pub after : ℕ → Role → ℕ
after n (outline m) = suc n
after n (own_hole m) = n
after n free_hole = n

-- the roles are numbered so, from n on
abbrev pub AreNumbers : ℕ → List Contour → Type 0
AreNumbers n [] = ⊤
AreNumbers n (c ∷ cs) = IsNumber n c.role × AreNumbers (after n c.role) cs

-- the number of outlines
abbrev pub outline_count : List Contour → ℕ
outline_count cs = length (filter (λ c. is_outline c.role) cs)
