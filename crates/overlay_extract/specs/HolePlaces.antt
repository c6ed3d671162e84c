-- The entries of a list at the places of outlines.
use Rattle.std.specs.Prelude.{ℕ, cond, List, [], ◌∷◌, Option}
use Rattle.overlay_plane.specs.RoledContours.{Contour, is_outline}

-- of the entries at the places of contours, those at outlines
abbrev pub at_outlines : List Contour → List (Option ℕ) → List (Option ℕ)
at_outlines [] found = []
at_outlines (c ∷ cs) [] = []
at_outlines (c ∷ cs) (f ∷ found) = cond (is_outline c.role) (f ∷ at_outlines cs found) (at_outlines cs found)
