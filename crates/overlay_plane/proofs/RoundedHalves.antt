-- A point of an edge in a half plane, rounded, is in it too, since its border is whole.
use lib.IntN.{*ℤ_comm}
use Rattle.std.proofs.Common.{◌≡◌, inl, inr, ℤ, pos, ◌+ℤ◌, ◌*ℤ◌, ◌<ℤ◌, ◌≤ℤ◌}
use Rattle.std.proofs.lemmas.Int.{by_lt_z}
use Rattle.overlay_geom.specs.Plane.{Point, PlanePoint, Edge, IsBetween, IsOn}
use Rattle.overlay_geom.specs.Rounding.{IsWithinHalf}
use Rattle.overlay_geom.proofs.Identities.{solve, number, ◌⊕◌, ◌⊗◌, ◌≗◌}
use Rattle.overlay_geom.proofs.Signs.{linear, mul-le}
use Rattle.overlay_plane.specs.HalfPlanes.{HalfPlane, IsInHalf}
use Rattle.overlay_plane.specs.HalfPlanes.HalfPlane.{left_of, right_of, below, above}

-- times a positive number the order stays
pub le_times : (d a b : ℤ) → pos 0 <ℤ d → a ≤ℤ b → (a *ℤ d) ≤ℤ (b *ℤ d)
le_times d a b some le =
    let product = mul-le d a b (omega linear) le in
    let left = *ℤ_comm a d in
    let right = *ℤ_comm b d in
    omega linear

module _ (c z d v : ℤ) (some : pos 0 <ℤ d) (near : IsWithinHalf v z d) where
  -- twice a number, and twice a product
  twice_z : pos 2 *ℤ z ≡ z +ℤ z
  twice_z = solve 1 (λ z. number (pos 2) ⊗ z ≗ z ⊕ z) tt z

  twice_vd : pos 2 *ℤ v *ℤ d ≡ v *ℤ d +ℤ v *ℤ d
  twice_vd = solve 2 (λ v d. number (pos 2) ⊗ v ⊗ d ≗ v ⊗ d ⊕ v ⊗ d) tt v d

  -- a rounded number is at most a whole number if the number was
  at_most_whole : z ≤ℤ (c *ℤ d) → v ≤ℤ c
  at_most_whole low = by_lt_z c v (λ less. absurd (against less)) (λ le. le)
    where
      against : c <ℤ v → ⊥
      against less =
          let far = le_times d (c +ℤ pos 1) v some (omega linear) in
          let spread = solve 2 (λ c d. (c ⊕ number (pos 1)) ⊗ d ≗ c ⊗ d ⊕ d) tt c d in
          let high = near.1 in
          let z_twice = twice_z in
          let vd_twice = twice_vd in
          omega linear

  -- a rounded number is at least a whole number if the number was
  at_least_whole : (c *ℤ d) ≤ℤ z → c ≤ℤ v
  at_least_whole high = by_lt_z v c (λ less. absurd (against less)) (λ le. le)
    where
      against : v <ℤ c → ⊥
      against less =
          let far = le_times d (v +ℤ pos 1) c some (omega linear) in
          let spread = solve 2 (λ v d. (v ⊕ number (pos 1)) ⊗ d ≗ v ⊗ d ⊕ d) tt v d in
          let low = near.0 in
          let z_twice = twice_z in
          let vd_twice = twice_vd in
          omega linear

-- a number between two numbers is within their common bounds
between_at_most : (c a b z d : ℤ) → pos 0 <ℤ d → a ≤ℤ c → b ≤ℤ c → IsBetween z (a *ℤ d) (b *ℤ d) → z ≤ℤ (c *ℤ d)
between_at_most c a b z d some a_low b_low (inl h) =
    let last = le_times d b c some b_low in
    let below_b = h.1 in
    omega linear
between_at_most c a b z d some a_low b_low (inr h) =
    let last = le_times d a c some a_low in
    let below_a = h.1 in
    omega linear

between_at_least : (c a b z d : ℤ) → pos 0 <ℤ d → c ≤ℤ a → c ≤ℤ b → IsBetween z (a *ℤ d) (b *ℤ d) → (c *ℤ d) ≤ℤ z
between_at_least c a b z d some a_high b_high (inl h) =
    let first = le_times d c a some a_high in
    let above_a = h.0 in
    omega linear
between_at_least c a b z d some a_high b_high (inr h) =
    let first = le_times d c b some b_high in
    let above_b = h.0 in
    omega linear

-- the whole point near a point of an edge in a half plane is in it
pub rounded_in_half : (h : HalfPlane) (f : Edge) (p : PlanePoint) (v : Point) → IsInHalf h f.a → IsInHalf h f.b →
    IsOn f p → IsWithinHalf v.x p.x p.d → IsWithinHalf v.y p.y p.d → IsInHalf h v
rounded_in_half (left_of c) f p v at_a at_b on near_x near_y =
    at_most_whole c p.x p.d v.x p.positive near_x
    (between_at_most c f.a.x f.b.x p.x p.d p.positive at_a at_b on.in_x)
rounded_in_half (right_of c) f p v at_a at_b on near_x near_y =
    at_least_whole c p.x p.d v.x p.positive near_x
    (between_at_least c f.a.x f.b.x p.x p.d p.positive at_a at_b on.in_x)
rounded_in_half (below c) f p v at_a at_b on near_x near_y =
    at_most_whole c p.y p.d v.y p.positive near_y
    (between_at_most c f.a.y f.b.y p.y p.d p.positive at_a at_b on.in_y)
rounded_in_half (above c) f p v at_a at_b on near_x near_y =
    at_least_whole c p.y p.d v.y p.positive near_y
    (between_at_least c f.a.y f.b.y p.y p.d p.positive at_a at_b on.in_y)
