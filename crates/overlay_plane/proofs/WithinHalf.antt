-- Points of the plane at most 1/2 apart in x and in y: in either order, over any denominators, and mixed alike.
use lib.IntN.{*ℤ_comm}
use Rattle.std.proofs.Common.{◌≡◌, ℤ, pos, ◌+ℤ◌, ◌-ℤ◌, ◌*ℤ◌, ◌<ℤ◌, ◌≤ℤ◌}
use Rattle.overlay_geom.specs.Plane.{Point, PlanePoint, SamePlace, in_plane}
use Rattle.overlay_geom.specs.Rounding.{nearest_point, IsWithinHalf}
use Rattle.overlay_geom.proofs.Identities.{solve, number, ◌⊕◌, ◌⊗◌, ◌⊖◌, ◌≗◌}
use Rattle.overlay_geom.proofs.Rounded.{nearest-within}
use Rattle.overlay_geom.proofs.Signs.{linear, mul-lt, mul-le, mul-zero, le_of_mul-le}
use Rattle.overlay_plane.specs.Snaps.{AreWithinHalf}
use Rattle.overlay_plane.proofs.Mixtures.{mixture}

-- ---- coordinates x / d, z / c and y / b

-- a number at most 1/2 below a number is so below it over another denominator
below_elsewhere : (x d z c y b : ℤ) → pos 0 <ℤ c → pos 0 <ℤ b → z *ℤ b ≡ y *ℤ c →
    (pos 2 *ℤ (z *ℤ d -ℤ x *ℤ c)) ≤ℤ (d *ℤ c) →
    (pos 2 *ℤ (y *ℤ d -ℤ x *ℤ b)) ≤ℤ (d *ℤ b)
below_elsewhere x d z c y b c_pos b_pos same le =
    let scaled = mul-le b (pos 2 *ℤ (z *ℤ d -ℤ x *ℤ c)) (d *ℤ c) (omega linear) le in
    let left = solve 6
    (λ x d z c y b. b ⊗ (number (pos 2) ⊗ (z ⊗ d ⊖ x ⊗ c)) ≗ c ⊗ (number (pos 2) ⊗ (y ⊗ d ⊖ x ⊗ b)) ⊕
    (number (pos 2) ⊗ d) ⊗ (z ⊗ b ⊖ y ⊗ c)) tt x d z c y b in
    let none = mul-zero (pos 2 *ℤ d) (z *ℤ b -ℤ y *ℤ c) (omega linear) in
    let right = solve 3 (λ d c b. b ⊗ (d ⊗ c) ≗ c ⊗ (d ⊗ b)) tt d c b in
    le_of_mul-le c (pos 2 *ℤ (y *ℤ d -ℤ x *ℤ b)) (d *ℤ b) c_pos (omega linear)

-- and what is at most 1/2 above it
above_elsewhere : (x d z c y b : ℤ) → pos 0 <ℤ c → pos 0 <ℤ b → z *ℤ b ≡ y *ℤ c →
    (pos 2 *ℤ (x *ℤ c -ℤ z *ℤ d)) ≤ℤ (d *ℤ c) →
    (pos 2 *ℤ (x *ℤ b -ℤ y *ℤ d)) ≤ℤ (d *ℤ b)
above_elsewhere x d z c y b c_pos b_pos same le =
    let scaled = mul-le b (pos 2 *ℤ (x *ℤ c -ℤ z *ℤ d)) (d *ℤ c) (omega linear) le in
    let left = solve 6
    (λ x d z c y b. b ⊗ (number (pos 2) ⊗ (x ⊗ c ⊖ z ⊗ d)) ≗ c ⊗ (number (pos 2) ⊗ (x ⊗ b ⊖ y ⊗ d)) ⊖
    (number (pos 2) ⊗ d) ⊗ (z ⊗ b ⊖ y ⊗ c)) tt x d z c y b in
    let none = mul-zero (pos 2 *ℤ d) (z *ℤ b -ℤ y *ℤ c) (omega linear) in
    let right = solve 3 (λ d c b. b ⊗ (d ⊗ c) ≗ c ⊗ (d ⊗ b)) tt d c b in
    le_of_mul-le c (pos 2 *ℤ (x *ℤ b -ℤ y *ℤ d)) (d *ℤ b) c_pos (omega linear)

-- ---- points

-- two points are as far apart whichever is named first
pub within_half_exchanged : (p q : PlanePoint) → AreWithinHalf p q → AreWithinHalf q p
within_half_exchanged p q h =
    let same = *ℤ_comm p.d q.d in
    record {
      right = let le = h.left in omega linear;
      left = let le = h.right in omega linear;
      up = let le = h.down in omega linear;
      down = let le = h.up in omega linear;
    }

-- a point within half a unit of a point is so of each point at its place
pub within_half_elsewhere : (p q r : PlanePoint) → SamePlace q r → AreWithinHalf p q → AreWithinHalf p r
within_half_elsewhere p q r same h = record {
  right = above_elsewhere p.x p.d q.x q.d r.x r.d q.positive r.positive same.0 h.right;
  left = below_elsewhere p.x p.d q.x q.d r.x r.d q.positive r.positive same.0 h.left;
  up = above_elsewhere p.y p.d q.y q.d r.y r.d q.positive r.positive same.1 h.up;
  down = below_elsewhere p.y p.d q.y q.d r.y r.d q.positive r.positive same.1 h.down;
}

-- ---- mixtures

-- whole numbers at most 1/2 away from two numbers, mixed as they are, are at most 1/2 away from the mixture
pub halves_mixed : (s t x d z c v w : ℤ) → pos 0 ≤ℤ s → pos 0 ≤ℤ t → IsWithinHalf v x d → IsWithinHalf w z c →
    ((pos 2 *ℤ (s *ℤ x +ℤ t *ℤ z) -ℤ (s *ℤ d +ℤ t *ℤ c)) ≤ℤ (pos 2 *ℤ ((s *ℤ d) *ℤ v +ℤ (t *ℤ c) *ℤ w)))
    × ((pos 2 *ℤ ((s *ℤ d) *ℤ v +ℤ (t *ℤ c) *ℤ w)) ≤ℤ (pos 2 *ℤ (s *ℤ x +ℤ t *ℤ z) +ℤ (s *ℤ d +ℤ t *ℤ c)))
halves_mixed s t x d z c v w s_nonneg t_nonneg at_v at_w =
    let low_v = mul-le s (pos 2 *ℤ x -ℤ d) (pos 2 *ℤ v *ℤ d) s_nonneg at_v.0 in
    let low_w = mul-le t (pos 2 *ℤ z -ℤ c) (pos 2 *ℤ w *ℤ c) t_nonneg at_w.0 in
    let high_v = mul-le s (pos 2 *ℤ v *ℤ d) (pos 2 *ℤ x +ℤ d) s_nonneg at_v.1 in
    let high_w = mul-le t (pos 2 *ℤ w *ℤ c) (pos 2 *ℤ z +ℤ c) t_nonneg at_w.1 in
    let low = solve 6
    (λ s t x d z c. s ⊗ (number (pos 2) ⊗ x ⊖ d) ⊕ t ⊗ (number (pos 2) ⊗ z ⊖ c) ≗ number (pos 2) ⊗ (s ⊗ x ⊕ t ⊗ z) ⊖
    (s ⊗ d ⊕ t ⊗ c)) tt s t x d z c in
    let high = solve 6
    (λ s t x d z c. s ⊗ (number (pos 2) ⊗ x ⊕ d) ⊕ t ⊗ (number (pos 2) ⊗ z ⊕ c) ≗ number (pos 2) ⊗ (s ⊗ x ⊕ t ⊗ z) ⊕
    (s ⊗ d ⊕ t ⊗ c)) tt s t x d z c in
    let whole = solve 6
    (λ s t d c v w. s ⊗ (number (pos 2) ⊗ v ⊗ d) ⊕ t ⊗ (number (pos 2) ⊗ w ⊗ c) ≗ number (pos 2) ⊗
    ((s ⊗ d) ⊗ v ⊕ (t ⊗ c) ⊗ w)) tt s t d c v w in
    (omega linear, omega linear)

-- and less than 1/2 below it, where both are so below, and the first counts
pub less_than_half_mixed : (s t x d z c v w : ℤ) → pos 0 <ℤ s → pos 0 ≤ℤ t →
    (pos 2 *ℤ x -ℤ d) <ℤ (pos 2 *ℤ v *ℤ d) → (pos 2 *ℤ z -ℤ c) <ℤ (pos 2 *ℤ w *ℤ c) →
    (pos 2 *ℤ (s *ℤ x +ℤ t *ℤ z) -ℤ (s *ℤ d +ℤ t *ℤ c)) <ℤ (pos 2 *ℤ ((s *ℤ d) *ℤ v +ℤ (t *ℤ c) *ℤ w))
less_than_half_mixed s t x d z c v w s_positive t_nonneg at_v at_w =
    let low_v = mul-lt s (pos 2 *ℤ x -ℤ d) (pos 2 *ℤ v *ℤ d) s_positive at_v in
    let low_w = mul-le t (pos 2 *ℤ z -ℤ c) (pos 2 *ℤ w *ℤ c) t_nonneg (omega linear) in
    let low = solve 6
    (λ s t x d z c. s ⊗ (number (pos 2) ⊗ x ⊖ d) ⊕ t ⊗ (number (pos 2) ⊗ z ⊖ c) ≗ number (pos 2) ⊗ (s ⊗ x ⊕ t ⊗ z) ⊖
    (s ⊗ d ⊕ t ⊗ c)) tt s t x d z c in
    let whole = solve 6
    (λ s t d c v w. s ⊗ (number (pos 2) ⊗ v ⊗ d) ⊕ t ⊗ (number (pos 2) ⊗ w ⊗ c) ≗ number (pos 2) ⊗
    ((s ⊗ d) ⊗ v ⊕ (t ⊗ c) ⊗ w)) tt s t d c v w in
    omega linear

-- the size of such a mixture of whole numbers
pub size_mixed : (u v : ℤ) → u *ℤ pos 1 +ℤ v *ℤ pos 1 ≡ u +ℤ v
size_mixed = solve 2 (λ u v. u ⊗ number (pos 1) ⊕ v ⊗ number (pos 1) ≗ u ⊕ v) tt

-- numbers over one denominator, written twice, are at most 1/2 apart where their numerators are so over it
over_one : (z w d c : ℤ) → pos 0 <ℤ d → c ≡ d → (pos 2 *ℤ z -ℤ d) ≤ℤ (pos 2 *ℤ w) →
    (pos 2 *ℤ w) ≤ℤ (pos 2 *ℤ z +ℤ d) →
    ((pos 2 *ℤ (z *ℤ c -ℤ w *ℤ d)) ≤ℤ (d *ℤ c)) × ((pos 2 *ℤ (w *ℤ d -ℤ z *ℤ c)) ≤ℤ (d *ℤ c))
over_one z w d c positive same low high =
    let below = mul-le d (pos 2 *ℤ z -ℤ pos 2 *ℤ w) d (omega linear) (omega linear) in
    let above = mul-le d (pos 2 *ℤ w -ℤ pos 2 *ℤ z) d (omega linear) (omega linear) in
    let at_z = solve 4
    (λ z w d c. number (pos 2) ⊗ (z ⊗ c ⊖ w ⊗ d) ≗ d ⊗ (number (pos 2) ⊗ z ⊖ number (pos 2) ⊗ w) ⊕
    (number (pos 2) ⊗ z) ⊗ (c ⊖ d)) tt z w d c in
    let at_w = solve 4
    (λ z w d c. number (pos 2) ⊗ (w ⊗ d ⊖ z ⊗ c) ≗ d ⊗ (number (pos 2) ⊗ w ⊖ number (pos 2) ⊗ z) ⊖
    (number (pos 2) ⊗ z) ⊗ (c ⊖ d)) tt z w d c in
    let none = mul-zero (pos 2 *ℤ z) (c -ℤ d) (omega linear) in
    let size = solve 2 (λ d c. d ⊗ c ≗ d ⊗ d ⊕ d ⊗ (c ⊖ d)) tt d c in
    let no_more = mul-zero d (c -ℤ d) (omega linear) in
    (omega linear, omega linear)

-- v is at most 1/2 away from p, in x and in y
pub record IsHalfFrom (p : PlanePoint) (v : Point) : Type 0 where
  pub in_x : IsWithinHalf v.x p.x p.d
  pub in_y : IsWithinHalf v.y p.y p.d

-- so is the whole point nearest p
pub half_from_nearest : (p : PlanePoint) → IsHalfFrom p (nearest_point p)
half_from_nearest p = record {
  in_x = nearest-within p.x p.d p.positive;
  in_y = nearest-within p.y p.d p.positive;
}

-- and v itself is no way from v
pub half_from_itself : (v : Point) → IsHalfFrom (in_plane v) v
half_from_itself v = record { in_x = no_way v.x; in_y = no_way v.y }
  where
    no_way : (z : ℤ) → IsWithinHalf z z (pos 1)
    no_way z =
        let identity = solve 1 (λ z. number (pos 2) ⊗ z ⊗ number (pos 1) ≗ number (pos 2) ⊗ z) tt z in
        (omega linear, omega linear)

module _ (s t : ℤ) (p q : PlanePoint) (some : pos 0 <ℤ (s *ℤ p.d +ℤ t *ℤ q.d)) (u v : Point) where
  -- two whole points, mixed as p and q are in their mixture
  abbrev pub whole_mixture : PlanePoint
  whole_mixture =
      let size = size_mixed (s *ℤ p.d) (t *ℤ q.d) in
      mixture (s *ℤ p.d) (t *ℤ q.d) (in_plane u) (in_plane v) (omega linear)

  -- where each is at most 1/2 away from p or q, they are within half a unit of that
  pub whole_mixture_near : pos 0 ≤ℤ s → pos 0 ≤ℤ t → IsHalfFrom p u → IsHalfFrom q v →
      AreWithinHalf (mixture s t p q some) whole_mixture
  whole_mixture_near s_nonneg t_nonneg near_u near_v =
      let in_x = halves_mixed s t p.x p.d q.x q.d u.x v.x s_nonneg t_nonneg near_u.in_x near_v.in_x in
      let in_y = halves_mixed s t p.y p.d q.y q.d u.y v.y s_nonneg t_nonneg near_u.in_y near_v.in_y in
      let x = over_one (s *ℤ p.x +ℤ t *ℤ q.x) ((s *ℤ p.d) *ℤ u.x +ℤ (t *ℤ q.d) *ℤ v.x) (s *ℤ p.d +ℤ t *ℤ q.d)
      (s *ℤ p.d *ℤ pos 1 +ℤ t *ℤ q.d *ℤ pos 1) some (size_mixed (s *ℤ p.d) (t *ℤ q.d)) in_x.0 in_x.1 in
      let y = over_one (s *ℤ p.y +ℤ t *ℤ q.y) ((s *ℤ p.d) *ℤ u.y +ℤ (t *ℤ q.d) *ℤ v.y) (s *ℤ p.d +ℤ t *ℤ q.d)
      (s *ℤ p.d *ℤ pos 1 +ℤ t *ℤ q.d *ℤ pos 1) some (size_mixed (s *ℤ p.d) (t *ℤ q.d)) in_y.0 in_y.1 in
      record { right = x.0; left = x.1; up = y.0; down = y.1 }

module _ (s t : ℤ) (p q : PlanePoint) (some : pos 0 <ℤ (s *ℤ p.d +ℤ t *ℤ q.d)) where
  -- the whole points nearest p and q, mixed as these are
  abbrev pub rounded_mixture : PlanePoint
  rounded_mixture = whole_mixture s t p q some (nearest_point p) (nearest_point q)

  -- they are within half a unit of the mixture
  pub rounded_mixture_near : pos 0 ≤ℤ s → pos 0 ≤ℤ t → AreWithinHalf (mixture s t p q some) rounded_mixture
  rounded_mixture_near s_nonneg t_nonneg = whole_mixture_near s t p q some (nearest_point p) (nearest_point q) s_nonneg
      t_nonneg (half_from_nearest p) (half_from_nearest q)
