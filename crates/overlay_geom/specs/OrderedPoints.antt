-- Points that compare as equal.
use Rattle.std.specs.Prelude.{◌≡◌, ◌↔◌}
use Rattle.std.specs.declared.cmp.Ordering.TheVariants.{Equal}
use Rattle.overlay_geom.specs.Plane.{Point}
use Rattle.overlay_geom.specs.Resolved.{point_cmp}

-- two points compare as equal exactly where they are one
abbrev pub EqualAlone : Type 0
EqualAlone = (p q : Point) → (point_cmp p q ≡ Equal) ↔ (p ≡ q)
