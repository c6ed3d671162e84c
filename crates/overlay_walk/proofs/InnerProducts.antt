-- The inner product of two ways as a cross product: with the second way turned to the left.
use Rattle.std.proofs.Common.{◌≡◌, ℤ, ◌-ℤ◌, ◌*ℤ◌, ap₂, ◌∙◌}
use Rattle.overlay_geom.specs.Plane.{Point}
use Rattle.overlay_geom.proofs.Identities.{solve, ◌⊕◌, ◌⊗◌, ◌⊖◌, ◌≗◌}
use Rattle.overlay_plane.specs.Turn.{dot_at}

-- the inner product of the vectors from v to p and to q, as a cross product with the second turned
pub cross_with_turned : (v p q : Point) (px py back qx : ℤ) → px ≡ p.x -ℤ v.x → py ≡ p.y -ℤ v.y → back ≡ v.y -ℤ q.y →
    qx ≡ q.x -ℤ v.x
    → px *ℤ qx -ℤ py *ℤ back ≡ dot_at v p q
cross_with_turned v p q px py back qx e f g h =
    ap₂ (λ a b. a -ℤ b) (ap₂ (λ a b. a *ℤ b) e h) (ap₂ (λ a b. a *ℤ b) f g)
    ∙ solve 6 (λ vx vy px py qx qy.
    (px ⊖ vx) ⊗ (qx ⊖ vx) ⊖ (py ⊖ vy) ⊗ (vy ⊖ qy) ≗ (px ⊖ vx) ⊗ (qx ⊖ vx) ⊕ (py ⊖ vy) ⊗ (qy ⊖ vy))
    tt v.x v.y p.x p.y q.x q.y
