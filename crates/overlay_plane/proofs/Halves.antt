-- Points of the plane at most k/2 apart in x and in y: over any denominators, by more halves, and on the way through a
-- third point.
use lib.IntN.{*ℤ_comm}
use Rattle.std.proofs.Common.{◌≡◌, ℕ, ◌≤◌, ℤ, pos, ◌+ℤ◌, ◌-ℤ◌, ◌*ℤ◌, ◌<ℤ◌, ◌≤ℤ◌, suc, ◌+◌, subst, arith}
use Rattle.std.proofs.lemmas.Int.{ints}
use Rattle.overlay_geom.specs.Plane.{PlanePoint}
use Rattle.overlay_geom.proofs.Identities.{solve, number, ◌⊕◌, ◌⊗◌, ◌⊖◌, ◌≗◌}
use Rattle.overlay_geom.proofs.Signs.{linear, mul-pos, mul-le, le_of_mul-le}
use Rattle.overlay_plane.specs.FarPoints.{AreWithinHalves}
use Rattle.overlay_plane.specs.Snaps.{AreWithinHalf}

-- ---- coordinates x / a, z / b and y / c

-- what is at most 1/2 above a number that is at most k/2 above a third is at most (1 + k)/2 above that
sum_above : (k x a z b y c : ℤ) → pos 0 <ℤ a → pos 0 <ℤ b → pos 0 <ℤ c →
    (pos 2 *ℤ (x *ℤ b -ℤ z *ℤ a)) ≤ℤ (a *ℤ b) → (pos 2 *ℤ (z *ℤ c -ℤ y *ℤ b)) ≤ℤ (k *ℤ (b *ℤ c)) →
    (pos 2 *ℤ (x *ℤ c -ℤ y *ℤ a)) ≤ℤ ((pos 1 +ℤ k) *ℤ (a *ℤ c))
sum_above k x a z b y c a_pos b_pos c_pos first second =
    let low = mul-le c (pos 2 *ℤ (x *ℤ b -ℤ z *ℤ a)) (a *ℤ b) (omega linear) first in
    let high = mul-le a (pos 2 *ℤ (z *ℤ c -ℤ y *ℤ b)) (k *ℤ (b *ℤ c)) (omega linear) second in
    let left = solve 6
    (λ x a z b y c. b ⊗ (number (pos 2) ⊗ (x ⊗ c ⊖ y ⊗ a)) ≗ c ⊗ (number (pos 2) ⊗ (x ⊗ b ⊖ z ⊗ a)) ⊕
    a ⊗ (number (pos 2) ⊗ (z ⊗ c ⊖ y ⊗ b))) tt x a z b y c in
    let right = solve 4
    (λ k a b c. b ⊗ ((number (pos 1) ⊕ k) ⊗ (a ⊗ c)) ≗ c ⊗ (a ⊗ b) ⊕ a ⊗ (k ⊗ (b ⊗ c))) tt k a b c in
    le_of_mul-le b (pos 2 *ℤ (x *ℤ c -ℤ y *ℤ a)) ((pos 1 +ℤ k) *ℤ (a *ℤ c)) b_pos (omega linear)

-- and so below
sum_below : (k x a z b y c : ℤ) → pos 0 <ℤ a → pos 0 <ℤ b → pos 0 <ℤ c →
    (pos 2 *ℤ (z *ℤ a -ℤ x *ℤ b)) ≤ℤ (a *ℤ b) → (pos 2 *ℤ (y *ℤ b -ℤ z *ℤ c)) ≤ℤ (k *ℤ (b *ℤ c)) →
    (pos 2 *ℤ (y *ℤ a -ℤ x *ℤ c)) ≤ℤ ((pos 1 +ℤ k) *ℤ (a *ℤ c))
sum_below k x a z b y c a_pos b_pos c_pos first second =
    let low = mul-le c (pos 2 *ℤ (z *ℤ a -ℤ x *ℤ b)) (a *ℤ b) (omega linear) first in
    let high = mul-le a (pos 2 *ℤ (y *ℤ b -ℤ z *ℤ c)) (k *ℤ (b *ℤ c)) (omega linear) second in
    let left = solve 6
    (λ x a z b y c. b ⊗ (number (pos 2) ⊗ (y ⊗ a ⊖ x ⊗ c)) ≗ c ⊗ (number (pos 2) ⊗ (z ⊗ a ⊖ x ⊗ b)) ⊕
    a ⊗ (number (pos 2) ⊗ (y ⊗ b ⊖ z ⊗ c))) tt x a z b y c in
    let right = solve 4
    (λ k a b c. b ⊗ ((number (pos 1) ⊕ k) ⊗ (a ⊗ c)) ≗ c ⊗ (a ⊗ b) ⊕ a ⊗ (k ⊗ (b ⊗ c))) tt k a b c in
    le_of_mul-le b (pos 2 *ℤ (y *ℤ a -ℤ x *ℤ c)) ((pos 1 +ℤ k) *ℤ (a *ℤ c)) b_pos (omega linear)

-- ---- points

-- a point within half a unit of one that is within k/2 of a third is within (k + 1)/2 of that
pub halves_on : (k : ℕ) (m h p : PlanePoint) → AreWithinHalf m h → AreWithinHalves k h p → AreWithinHalves (suc k) m p
halves_on k m h p near far = subst (λ n. AreWithinHalves n m p) count (record {
  right = sum_above (pos k) m.x m.d h.x h.d p.x p.d m.positive h.positive p.positive near.right far.right;
  left = sum_below (pos k) m.x m.d h.x h.d p.x p.d m.positive h.positive p.positive near.left far.left;
  up = sum_above (pos k) m.y m.d h.y h.d p.y p.d m.positive h.positive p.positive near.up far.up;
  down = sum_below (pos k) m.y m.d h.y h.d p.y p.d m.positive h.positive p.positive near.down far.down;
})
  where
    count : 1 + k ≡ suc k
    count = omega arith

-- points within j/2 are within k/2, where k is no less
pub halves_weaker : (j k : ℕ) → j ≤ k → (p q : PlanePoint) → AreWithinHalves j p q → AreWithinHalves k p q
halves_weaker j k le p q h =
    let size = mul-pos p.d q.d p.positive q.positive in
    let more = mul-le (p.d *ℤ q.d) (pos j) (pos k) (omega linear) (omega (arith, ints, le)) in
    let of_j = *ℤ_comm (p.d *ℤ q.d) (pos j) in
    let of_k = *ℤ_comm (p.d *ℤ q.d) (pos k) in
    let right = h.right in
    let left = h.left in
    let up = h.up in
    let down = h.down in
    record { right = omega linear; left = omega linear; up = omega linear; down = omega linear }

-- points within half a unit are within 1/2
pub halves_of_half : (p q : PlanePoint) → AreWithinHalf p q → AreWithinHalves 1 p q
halves_of_half p q h =
    let once = solve 1 (λ d. number (pos 1) ⊗ d ≗ d) tt (p.d *ℤ q.d) in
    let right = h.right in
    let left = h.left in
    let up = h.up in
    let down = h.down in
    record { right = omega linear; left = omega linear; up = omega linear; down = omega linear }

-- a point at the place of p is no half away from it
pub halves_of_itself : (p : PlanePoint) → AreWithinHalves 0 p p
halves_of_itself p =
    let none_x = solve 2 (λ x d. number (pos 2) ⊗ (x ⊗ d ⊖ x ⊗ d) ≗ number (pos 0)) tt p.x p.d in
    let none_y = solve 2 (λ y d. number (pos 2) ⊗ (y ⊗ d ⊖ y ⊗ d) ≗ number (pos 0)) tt p.y p.d in
    let none = solve 1 (λ d. number (pos 0) ⊗ d ≗ number (pos 0)) tt (p.d *ℤ p.d) in
    record { right = omega linear; left = omega linear; up = omega linear; down = omega linear }
