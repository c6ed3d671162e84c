-- An edge of the program that leads from a point, or none.
use Rattle.std.specs.Prelude.{ℕ, ℤ, Option, Some, None}
use Rattle.overlay_geom.specs.Plane.{Edge}
use Rattle.overlay_geom.specs.Resolved.{plain_edge, IsLongEdge}
use Rattle.overlay_geom.specs.declared.edge.IntEdge.{IntEdge}

-- as an edge between whole points
abbrev pub plain_ray : {I : Type 0} → (I → ℤ) → Option (IntEdge I) → Option Edge
plain_ray whole None = None
plain_ray whole (Some e) = Some (plain_edge whole e)

-- it is in range, if there is one
abbrev pub IsRayHeld : ℕ → Option Edge → Type 0
IsRayHeld limit None = Unit {0}
IsRayHeld limit (Some e) = IsLongEdge limit e
