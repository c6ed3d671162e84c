-- The whole number nearest to a fraction: its distance, its uniqueness and its order. Rounding in x and in y rounds
-- points. A number between two whole numbers is rounded between them.
use Rattle.std.proofs.Common.{◌≡◌, inl, inr, ℤ, pos, negsuc, ◌+ℤ◌, ◌-ℤ◌, ◌*ℤ◌, ◌<ℤ◌, ◌≤ℤ◌, ap₂, arith}
use Rattle.std.specs.Int.{int_div_euclid}
use Rattle.std.proofs.lemmas.Int.{ints, by_lt_z}
use Rattle.overlay_geom.specs.Plane.{IsBetween}
use Rattle.overlay_geom.specs.Rounding.{nearest, nearest_point, IsWithinHalf, IsRounding}
use Rattle.overlay_geom.proofs.Identities.{solve, number, ◌⊕◌, ◌⊗◌, ◌⊖◌, ⊝◌, ◌≗◌}
use Rattle.overlay_geom.proofs.Signs.{linear, mul-pos, mul-nonneg, mul-le, lt_of_mul-lt, le_of_mul-le}
use Rattle.overlay_geom.proofs.AlongEdge.{over_le}

-- ---- the quotient that is rounded down

-- times the divisor it is at most the dividend
quotient-at_most : (a m : ℤ) → pos 0 <ℤ m → (m *ℤ int_div_euclid a m) ≤ℤ a
quotient-at_most (pos a) (pos m) p = omega (arith, ints)
quotient-at_most (negsuc a) (pos m) p = omega (arith, ints)
quotient-at_most a (negsuc m) p = absurd (omega linear)

-- which is less than one divisor above that
quotient-above : (a m : ℤ) → pos 0 <ℤ m → a <ℤ (m *ℤ int_div_euclid a m +ℤ m)
quotient-above (pos a) (pos m) p = omega (arith, ints)
quotient-above (negsuc a) (pos m) p = omega (arith, ints)
quotient-above a (negsuc m) p = absurd (omega linear)

-- ---- the nearest number

-- twice the number times the divisor, as the divisor doubled times the number
twice : (v d : ℤ) → pos 2 *ℤ v *ℤ d ≡ pos 2 *ℤ d *ℤ v
twice v d = solve 2 (λ v d. number (pos 2) ⊗ v ⊗ d ≗ number (pos 2) ⊗ d ⊗ v) tt v d

-- two of a number are it and itself
two_of : (d : ℤ) → pos 2 *ℤ d ≡ d +ℤ d
two_of d = solve 1 (λ d. number (pos 2) ⊗ d ≗ d ⊕ d) tt d

-- a positive number doubled is positive
twice-positive : (d : ℤ) → pos 0 <ℤ d → pos 0 <ℤ (pos 2 *ℤ d)
twice-positive d p = mul-pos (pos 2) d (record { lt = tt }) p

-- it is at most 1/2 above the fraction
nearest-at_most : (z d : ℤ) → pos 0 <ℤ d → (pos 2 *ℤ nearest z d *ℤ d) ≤ℤ (pos 2 *ℤ z +ℤ d)
nearest-at_most z d p =
    let exchanged = twice (nearest z d) d in
    let low = quotient-at_most (pos 2 *ℤ z +ℤ d) (pos 2 *ℤ d) (twice-positive d p) in
    omega linear

-- the nearest number is less than 1/2 below: it is the fraction plus 1/2, rounded down
pub nearest-strict : (z d : ℤ) → pos 0 <ℤ d → (pos 2 *ℤ z -ℤ d) <ℤ (pos 2 *ℤ nearest z d *ℤ d)
nearest-strict z d p =
    let exchanged = twice (nearest z d) d in
    let both = two_of d in
    let high = quotient-above (pos 2 *ℤ z +ℤ d) (pos 2 *ℤ d) (twice-positive d p) in
    omega linear

-- the nearest number is at most 1/2 away
pub nearest-within : (z d : ℤ) → pos 0 <ℤ d → IsWithinHalf (nearest z d) z d
nearest-within z d p =
    let below = nearest-strict z d p in
    let above = nearest-at_most z d p in
    (omega linear, omega linear)

-- a number at most 1/2 above the fraction is at most the nearest one
nearest-least : (z d v : ℤ) → pos 0 <ℤ d → (pos 2 *ℤ v *ℤ d) ≤ℤ (pos 2 *ℤ z +ℤ d) → v ≤ℤ nearest z d
nearest-least z d v p le =
    let exchanged = twice v d in
    let both = two_of d in
    let high = quotient-above (pos 2 *ℤ z +ℤ d) (pos 2 *ℤ d) (twice-positive d p) in
    let next = solve 2 (λ d q. number (pos 2) ⊗ d ⊗ (q ⊕ number (pos 1)) ≗ number (pos 2) ⊗ d ⊗ q ⊕ number (pos 2) ⊗ d)
    tt d (nearest z d) in
    let less = lt_of_mul-lt (pos 2 *ℤ d) v (nearest z d +ℤ pos 1) (twice-positive d p) (omega linear) in
    omega linear

-- a number less than 1/2 below the fraction is at least the nearest number
nearest-greatest : (z d v : ℤ) → pos 0 <ℤ d → (pos 2 *ℤ z -ℤ d) <ℤ (pos 2 *ℤ v *ℤ d) → nearest z d ≤ℤ v
nearest-greatest z d v p lt =
    let exchanged = twice v d in
    let low = quotient-at_most (pos 2 *ℤ z +ℤ d) (pos 2 *ℤ d) (twice-positive d p) in
    let both = two_of d in
    let next = solve 2 (λ d v. number (pos 2) ⊗ d ⊗ (v ⊕ number (pos 1)) ≗ number (pos 2) ⊗ d ⊗ v ⊕ number (pos 2) ⊗ d)
    tt d v in
    let less = lt_of_mul-lt (pos 2 *ℤ d) (nearest z d) (v +ℤ pos 1) (twice-positive d p) (omega linear) in
    omega linear

-- no other number is so near
pub nearest-unique : (z d v : ℤ) → pos 0 <ℤ d → (pos 2 *ℤ z -ℤ d) <ℤ (pos 2 *ℤ v *ℤ d) →
    (pos 2 *ℤ v *ℤ d) ≤ℤ (pos 2 *ℤ z +ℤ d) → nearest z d ≡ v
nearest-unique z d v p lt le =
    let least = nearest-least z d v p le in
    let greatest = nearest-greatest z d v p lt in
    omega linear

-- ---- two fractions

-- the number nearest to the greater of two fractions is not below that nearest to the other
pub nearest-le : (z d y c : ℤ) → pos 0 <ℤ d → pos 0 <ℤ c → (z *ℤ c) ≤ℤ (y *ℤ d) → nearest z d ≤ℤ nearest y c
nearest-le z d y c p q le =
    let scaled = mul-le c (pos 2 *ℤ nearest z d *ℤ d) (pos 2 *ℤ z +ℤ d) (omega linear) (nearest-at_most z d p) in
    let left = solve 3 (λ v d c. d ⊗ (number (pos 2) ⊗ v ⊗ c) ≗ c ⊗ (number (pos 2) ⊗ v ⊗ d)) tt (nearest z d) d c in
    let middle = solve 3 (λ z d c. c ⊗ (number (pos 2) ⊗ z ⊕ d) ≗ z ⊗ c ⊕ z ⊗ c ⊕ d ⊗ c) tt z d c in
    let right = solve 3 (λ y d c. d ⊗ (number (pos 2) ⊗ y ⊕ c) ≗ y ⊗ d ⊕ y ⊗ d ⊕ d ⊗ c) tt y d c in
    nearest-least y c (nearest z d) q (le_of_mul-le d (pos 2 *ℤ nearest z d *ℤ c) (pos 2 *ℤ y +ℤ c) p (omega linear))

-- two fractions of one value have the same nearest number
pub nearest-same : (z d y c : ℤ) → pos 0 <ℤ d → pos 0 <ℤ c → z *ℤ c ≡ y *ℤ d → nearest z d ≡ nearest y c
nearest-same z d y c p q e =
    let low = nearest-le z d y c p q (omega linear) in
    let high = nearest-le y c z d q p (omega linear) in
    omega linear

-- the number nearest a whole one is that one
pub nearest-whole : (v d : ℤ) → pos 0 <ℤ d → nearest (v *ℤ d) d ≡ v
nearest-whole v d p =
    let bracketed = solve 2 (λ v d. number (pos 2) ⊗ v ⊗ d ≗ number (pos 2) ⊗ (v ⊗ d)) tt v d in
    nearest-unique (v *ℤ d) d v p (omega linear) (omega linear)

-- ---- between whole numbers

-- a whole number that is at most a fraction is at most the number nearest it
pub whole_le_nearest : (v z d : ℤ) → pos 0 <ℤ d → (v *ℤ d) ≤ℤ z → v ≤ℤ nearest z d
whole_le_nearest v z d positive le =
    let whole = nearest-whole v d positive in
    let kept = nearest-le (v *ℤ d) d z d positive positive (over_le (v *ℤ d) z d positive le) in
    omega linear

-- a whole number at least a fraction is at least the nearest number
pub nearest_le_whole : (v z d : ℤ) → pos 0 <ℤ d → z ≤ℤ (v *ℤ d) → nearest z d ≤ℤ v
nearest_le_whole v z d positive le =
    let whole = nearest-whole v d positive in
    let kept = nearest-le z d (v *ℤ d) d positive positive (over_le z (v *ℤ d) d positive le) in
    omega linear

-- a number between two whole numbers is rounded between them
pub nearest-between : (z u v d : ℤ) → pos 0 <ℤ d → IsBetween z (u *ℤ d) (v *ℤ d) → IsBetween (nearest z d) u v
nearest-between z u v d positive (inl (low, high)) =
    inl (whole_le_nearest u z d positive low, nearest_le_whole v z d positive high)
nearest-between z u v d positive (inr (low, high)) =
    inr (whole_le_nearest v z d positive low, nearest_le_whole u z d positive high)

-- ---- points

-- points are rounded in x and in y, and one point of the plane in one way
pub nearest_point-rounding : IsRounding nearest_point
nearest_point-rounding = record {
  near_x = λ p. nearest-within p.x p.d p.positive;
  near_y = λ p. nearest-within p.y p.d p.positive;
  one = λ p q same.
      ap₂ (λ x y. record { x = x; y = y })
      (nearest-same p.x p.d q.x q.d p.positive q.positive same.0)
      (nearest-same p.y p.d q.y q.d p.positive q.positive same.1);
}

-- ---- part of the way

-- a coordinate part of the way lies between the two
pub part_between : (u v t d : ℤ) → pos 0 ≤ℤ t → t ≤ℤ d → IsBetween (u *ℤ d +ℤ (v -ℤ u) *ℤ t) (u *ℤ d) (v *ℤ d)
part_between u v t d begun within = by_lt_z u v (λ up. inl (rising up)) (λ down. inr (falling down))
  where
    rising : u <ℤ v → ((u *ℤ d) ≤ℤ (u *ℤ d +ℤ (v -ℤ u) *ℤ t)) × ((u *ℤ d +ℤ (v -ℤ u) *ℤ t) ≤ℤ (v *ℤ d))
    rising up =
        let some = mul-nonneg (v -ℤ u) t (omega linear) begun in
        let most = mul-le (v -ℤ u) t d (omega linear) within in
        let whole = solve 3 (λ u v d. (v ⊖ u) ⊗ d ≗ v ⊗ d ⊖ u ⊗ d) tt u v d in
        (omega linear, omega linear)

    falling : v ≤ℤ u → ((v *ℤ d) ≤ℤ (u *ℤ d +ℤ (v -ℤ u) *ℤ t)) × ((u *ℤ d +ℤ (v -ℤ u) *ℤ t) ≤ℤ (u *ℤ d))
    falling down =
        let some = mul-nonneg (u -ℤ v) t (omega linear) begun in
        let most = mul-le (u -ℤ v) t d (omega linear) within in
        let whole = solve 3 (λ u v d. (u ⊖ v) ⊗ d ≗ u ⊗ d ⊖ v ⊗ d) tt u v d in
        let turned = solve 3 (λ u v t. (v ⊖ u) ⊗ t ≗ ⊝ ((u ⊖ v) ⊗ t)) tt u v t in
        (omega linear, omega linear)

-- the rounded point lies between them
pub part_way-between : (u v t d : ℤ) → pos 0 ≤ℤ t → t ≤ℤ d → pos 0 <ℤ d →
    IsBetween (nearest (u *ℤ d +ℤ (v -ℤ u) *ℤ t) d) u v
part_way-between u v t d begun within positive = nearest-between (u *ℤ d +ℤ (v -ℤ u) *ℤ t) u v d positive
    (part_between u v t d begun within)
