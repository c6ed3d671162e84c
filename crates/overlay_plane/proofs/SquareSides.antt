-- An edge that has no point in the unit square round a point of the plane: in the square's column it runs below the
-- square, or above it. So does an edge that misses the square with all its sides.
use lib.IntN.{*ℤ_comm}
use Rattle.std.proofs.Common.{◌≡◌, ◌⊎◌, inl, inr, ℤ, pos, ◌+ℤ◌, ◌-ℤ◌, ◌*ℤ◌, ◌<ℤ◌, ◌≤ℤ◌}
use Rattle.std.proofs.lemmas.Int.{by_lt_z}
use Rattle.overlay_geom.specs.Plane.{PlanePoint, Edge, IsOn}
use Rattle.overlay_geom.proofs.Identities.{solve, number, ◌⊕◌, ◌⊗◌, ◌⊖◌, ◌≗◌}
use Rattle.overlay_geom.proofs.Signs.{linear, mul-pos, mul-lt, mul-le, mul-zero, pos_of_mul-pos}
use Rattle.overlay_plane.specs.Snaps.{AreWithinHalf, MeetsSquareRound}
use Rattle.overlay_plane.proofs.Mixtures.{mixture, mixture_on}

-- q lies in the column of the unit square round p, to which its left side belongs
pub record IsInColumn (p q : PlanePoint) : Type 0 where
  pub from_left : (pos 2 *ℤ (p.x *ℤ q.d -ℤ q.x *ℤ p.d)) ≤ℤ (p.d *ℤ q.d)
  pub to_right : (pos 2 *ℤ (q.x *ℤ p.d -ℤ p.x *ℤ q.d)) <ℤ (p.d *ℤ q.d)

-- q lies lower than the square
abbrev pub IsBelowSquare : PlanePoint → PlanePoint → Type 0
IsBelowSquare p q = (p.d *ℤ q.d) <ℤ (pos 2 *ℤ (p.y *ℤ q.d -ℤ q.y *ℤ p.d))

-- q lies no lower than its upper side
abbrev pub IsAboveSquare : PlanePoint → PlanePoint → Type 0
IsAboveSquare p q = (p.d *ℤ q.d) ≤ℤ (pos 2 *ℤ (q.y *ℤ p.d -ℤ p.y *ℤ q.d))

-- q lies in that column or on its right side
pub record IsInClosedColumn (p q : PlanePoint) : Type 0 where
  pub from_left : (pos 2 *ℤ (p.x *ℤ q.d -ℤ q.x *ℤ p.d)) ≤ℤ (p.d *ℤ q.d)
  pub to_right : (pos 2 *ℤ (q.x *ℤ p.d -ℤ p.x *ℤ q.d)) ≤ℤ (p.d *ℤ q.d)

-- q lies higher than the square
abbrev pub IsHighAboveSquare : PlanePoint → PlanePoint → Type 0
IsHighAboveSquare p q = (p.d *ℤ q.d) <ℤ (pos 2 *ℤ (q.y *ℤ p.d -ℤ p.y *ℤ q.d))

-- two points of the edge on different sides of the square: one between them is as high as p
module _ (e : Edge) (p q r : PlanePoint) (on_q : IsOn e q) (on_r : IsOn e r) (below : IsBelowSquare p q)
    (above : IsAboveSquare p r) where
  -- how much higher r is than p
  abbrev rise : ℤ
  rise = r.y *ℤ p.d -ℤ p.y *ℤ r.d

  -- how much lower q is
  abbrev fall : ℤ
  fall = p.y *ℤ q.d -ℤ q.y *ℤ p.d

  -- both are positive
  rise-positive : pos 0 <ℤ rise
  rise-positive =
      let size = mul-pos p.d r.d p.positive r.positive in
      let high : (p.d *ℤ r.d) ≤ℤ (pos 2 *ℤ rise) = above in
      pos_of_mul-pos (pos 2) rise (record { lt = tt }) (omega linear)

  fall-positive : pos 0 <ℤ fall
  fall-positive =
      let size = mul-pos p.d q.d p.positive q.positive in
      let low : (p.d *ℤ q.d) <ℤ (pos 2 *ℤ fall) = below in
      pos_of_mul-pos (pos 2) fall (record { lt = tt }) (omega linear)

  -- q and r can be mixed, q weighted by how much higher r is, and r by how much lower q is
  some : pos 0 <ℤ (rise *ℤ q.d +ℤ fall *ℤ r.d)
  some =
      let of_q = mul-pos rise q.d rise-positive q.positive in
      let of_r = mul-pos fall r.d fall-positive r.positive in
      omega linear

  abbrev between : PlanePoint
  between = mixture rise fall q r some

  -- the mixture is on the edge
  between_on : IsOn e between
  between_on = mixture_on e rise fall q r some (let positive = rise-positive in omega linear)
      (let positive = fall-positive in omega linear) on_q on_r

  -- it is as high as p
  level : p.y *ℤ between.d ≡ between.y *ℤ p.d
  level = solve 6
      (λ py pd qy qd ry rd. py ⊗ ((ry ⊗ pd ⊖ py ⊗ rd) ⊗ qd ⊕ (py ⊗ qd ⊖ qy ⊗ pd) ⊗ rd) ≗
      ((ry ⊗ pd ⊖ py ⊗ rd) ⊗ qy ⊕ (py ⊗ qd ⊖ qy ⊗ pd) ⊗ ry) ⊗ pd)
      tt p.y p.d q.y q.d r.y r.d

  -- its distances from p in x are those of q and r, mixed alike
  mixed_left : pos 2 *ℤ (p.x *ℤ between.d -ℤ between.x *ℤ p.d) ≡
      rise *ℤ (pos 2 *ℤ (p.x *ℤ q.d -ℤ q.x *ℤ p.d)) +ℤ fall *ℤ (pos 2 *ℤ (p.x *ℤ r.d -ℤ r.x *ℤ p.d))
  mixed_left = solve 8
      (λ s t px pd qx qd rx rd. number (pos 2) ⊗ (px ⊗ (s ⊗ qd ⊕ t ⊗ rd) ⊖ (s ⊗ qx ⊕ t ⊗ rx) ⊗ pd) ≗
      s ⊗ (number (pos 2) ⊗ (px ⊗ qd ⊖ qx ⊗ pd)) ⊕ t ⊗ (number (pos 2) ⊗ (px ⊗ rd ⊖ rx ⊗ pd)))
      tt rise fall p.x p.d q.x q.d r.x r.d

  mixed_right : pos 2 *ℤ (between.x *ℤ p.d -ℤ p.x *ℤ between.d) ≡
      rise *ℤ (pos 2 *ℤ (q.x *ℤ p.d -ℤ p.x *ℤ q.d)) +ℤ fall *ℤ (pos 2 *ℤ (r.x *ℤ p.d -ℤ p.x *ℤ r.d))
  mixed_right = solve 8
      (λ s t px pd qx qd rx rd. number (pos 2) ⊗ ((s ⊗ qx ⊕ t ⊗ rx) ⊗ pd ⊖ px ⊗ (s ⊗ qd ⊕ t ⊗ rd)) ≗
      s ⊗ (number (pos 2) ⊗ (qx ⊗ pd ⊖ px ⊗ qd)) ⊕ t ⊗ (number (pos 2) ⊗ (rx ⊗ pd ⊖ px ⊗ rd)))
      tt rise fall p.x p.d q.x q.d r.x r.d

  mixed_size : p.d *ℤ between.d ≡ rise *ℤ (p.d *ℤ q.d) +ℤ fall *ℤ (p.d *ℤ r.d)
  mixed_size = solve 5 (λ s t pd qd rd. pd ⊗ (s ⊗ qd ⊕ t ⊗ rd) ≗ s ⊗ (pd ⊗ qd) ⊕ t ⊗ (pd ⊗ rd)) tt rise fall p.d q.d
      r.d

  -- so it is in the column where they are
  between_in_column : IsInColumn p q → IsInColumn p r → IsInColumn p between
  between_in_column column_q column_r =
      let positive_rise = rise-positive in
      let positive_fall = fall-positive in
      let left = mixed_left in
      let right = mixed_right in
      let size = mixed_size in
      record {
        from_left =
            let of_q = mul-le rise (pos 2 *ℤ (p.x *ℤ q.d -ℤ q.x *ℤ p.d)) (p.d *ℤ q.d) (omega linear)
            column_q.from_left in
            let of_r = mul-le fall (pos 2 *ℤ (p.x *ℤ r.d -ℤ r.x *ℤ p.d)) (p.d *ℤ r.d) (omega linear)
            column_r.from_left in
            omega linear;
        to_right =
            let of_q = mul-lt rise (pos 2 *ℤ (q.x *ℤ p.d -ℤ p.x *ℤ q.d)) (p.d *ℤ q.d) positive_rise
            column_q.to_right in
            let of_r = mul-lt fall (pos 2 *ℤ (r.x *ℤ p.d -ℤ p.x *ℤ r.d)) (p.d *ℤ r.d) positive_fall
            column_r.to_right in
            omega linear;
      }

  between_in_closed_column : IsInClosedColumn p q → IsInClosedColumn p r → IsInClosedColumn p between
  between_in_closed_column column_q column_r =
      let positive_rise = rise-positive in
      let positive_fall = fall-positive in
      let left = mixed_left in
      let right = mixed_right in
      let size = mixed_size in
      record {
        from_left =
            let of_q = mul-le rise (pos 2 *ℤ (p.x *ℤ q.d -ℤ q.x *ℤ p.d)) (p.d *ℤ q.d) (omega linear)
            column_q.from_left in
            let of_r = mul-le fall (pos 2 *ℤ (p.x *ℤ r.d -ℤ r.x *ℤ p.d)) (p.d *ℤ r.d) (omega linear)
            column_r.from_left in
            omega linear;
        to_right =
            let of_q = mul-le rise (pos 2 *ℤ (q.x *ℤ p.d -ℤ p.x *ℤ q.d)) (p.d *ℤ q.d) (omega linear)
            column_q.to_right in
            let of_r = mul-le fall (pos 2 *ℤ (r.x *ℤ p.d -ℤ p.x *ℤ r.d)) (p.d *ℤ r.d) (omega linear)
            column_r.to_right in
            omega linear;
      }

  -- a point as high as p is not far from it in y
  level_down : (pos 2 *ℤ (p.y *ℤ between.d -ℤ between.y *ℤ p.d)) ≤ℤ (p.d *ℤ between.d)
  level_down =
      let size = mul-pos p.d between.d p.positive some in
      let as_high = level in
      let none = mul-zero (pos 2) (p.y *ℤ between.d -ℤ between.y *ℤ p.d) (omega linear) in
      omega linear

  level_up : (pos 2 *ℤ (between.y *ℤ p.d -ℤ p.y *ℤ between.d)) <ℤ (p.d *ℤ between.d)
  level_up =
      let size = mul-pos p.d between.d p.positive some in
      let as_high = level in
      let none = mul-zero (pos 2) (between.y *ℤ p.d -ℤ p.y *ℤ between.d) (omega linear) in
      omega linear

-- ---- an edge that misses the square

module _ (e : Edge) (p : PlanePoint) (misses : ¬ (MeetsSquareRound e p)) where
  -- a point of the edge in the column lies below the square or above it
  pub below_or_above : (q : PlanePoint) → IsOn e q → IsInColumn p q → IsBelowSquare p q ⊎ IsAboveSquare p q
  below_or_above q on column =
      by_lt_z (p.d *ℤ q.d) (pos 2 *ℤ (p.y *ℤ q.d -ℤ q.y *ℤ p.d)) (λ below. inl below)
      (λ from_below. by_lt_z (pos 2 *ℤ (q.y *ℤ p.d -ℤ p.y *ℤ q.d)) (p.d *ℤ q.d)
      (λ to_above. absurd (misses (record {
        q = q;
        on = on;
        from_left = column.from_left;
        to_right = column.to_right;
        from_below = from_below;
        to_above = to_above;
      })))
      (λ above. inr above))

  -- no two points of the edge in the column lie on different sides of it
  pub not_on_both_sides : (q r : PlanePoint) → IsOn e q → IsOn e r → IsInColumn p q → IsInColumn p r →
      IsBelowSquare p q → IsAboveSquare p r → ⊥
  not_on_both_sides q r on_q on_r column_q column_r below above =
      let column = between_in_column e p q r on_q on_r below above column_q column_r in
      misses (record {
        q = between e p q r on_q on_r below above;
        on = between_on e p q r on_q on_r below above;
        from_left = column.from_left;
        to_right = column.to_right;
        from_below = level_down e p q r on_q on_r below above;
        to_above = level_up e p q r on_q on_r below above;
      })

-- ---- an edge that misses the square with all its sides

module _ (e : Edge) (p : PlanePoint) (far : (q : PlanePoint) → IsOn e q → ¬ (AreWithinHalf q p)) where
  -- a point of the edge in the closed column lies below the square or above it
  pub far_below_or_above : (q : PlanePoint) → IsOn e q → IsInClosedColumn p q →
      IsBelowSquare p q ⊎ IsHighAboveSquare p q
  far_below_or_above q on column =
      by_lt_z (p.d *ℤ q.d) (pos 2 *ℤ (p.y *ℤ q.d -ℤ q.y *ℤ p.d)) (λ below. inl below)
      (λ from_below. by_lt_z (p.d *ℤ q.d) (pos 2 *ℤ (q.y *ℤ p.d -ℤ p.y *ℤ q.d)) (λ above. inr above)
      (λ to_above. absurd (far q on
      (let size = *ℤ_comm p.d q.d in
      let from_left = column.from_left in
      let to_right = column.to_right in
      record { right = omega linear; left = omega linear; up = omega linear; down = omega linear }))))

  -- no two points of the edge in the closed column lie on different sides of it
  pub far_not_on_both_sides : (q r : PlanePoint) → IsOn e q → IsOn e r → IsInClosedColumn p q →
      IsInClosedColumn p r → IsBelowSquare p q → IsHighAboveSquare p r → ⊥
  far_not_on_both_sides q r on_q on_r column_q column_r below high = far (between e p q r on_q on_r below above)
      (between_on e p q r on_q on_r below above)
      (let middle = between e p q r on_q on_r below above in
      let size = *ℤ_comm p.d middle.d in
      let column = between_in_closed_column e p q r on_q on_r below above column_q column_r in
      let from_left = column.from_left in
      let to_right = column.to_right in
      let down = level_down e p q r on_q on_r below above in
      let up = level_up e p q r on_q on_r below above in
      record { right = omega linear; left = omega linear; up = omega linear; down = omega linear })
    where
      above : IsAboveSquare p r
      above = let lt : (p.d *ℤ r.d) <ℤ (pos 2 *ℤ (r.y *ℤ p.d -ℤ p.y *ℤ r.d)) = high in omega linear
