-- Lines by their two ends, as edges between whole points.
use Rattle.std.specs.Prelude.{ℤ, pos, List, [], ◌∷◌}
use Rattle.overlay_geom.specs.Plane.{Edge}
use Rattle.overlay_geom.specs.Points.{plain_point}
use Rattle.overlay_geom.specs.declared.point.IntPoint.{IntPoint}

-- the edge between the whole points at a line's two ends; a list of another length is not a line
abbrev pub plain_line : {I : Type 0} → (I → ℤ) → List (IntPoint I) → Edge
plain_line whole [] = record { a = record { x = pos 0; y = pos 0 }; b = record { x = pos 0; y = pos 0 } }
plain_line whole (a ∷ []) = record { a = plain_point whole a; b = plain_point whole a }
plain_line whole (a ∷ b ∷ ps) = record { a = plain_point whole a; b = plain_point whole b }
