-- A point of an edge that rounds to a whole point in the edge's box near its line: where the edge is slanted, the
-- point at which its line meets the pixel's diagonal that leads across it.
use lib.IntN.{*ℤ_comm}
use Rattle.std.proofs.Common.{◌≡◌, ◌⊎◌, inl, inr, true, ℤ, pos, ◌+ℤ◌, ◌-ℤ◌, ◌*ℤ◌, ◌<ℤ◌, ◌≤ℤ◌, sym, ap₂}
use Rattle.std.proofs.lemmas.Int.{by_lt_z}
use Rattle.overlay_geom.specs.Plane.{Point, PlanePoint, Edge, IsOn, side, in_plane}
use Rattle.overlay_geom.specs.Rounding.{nearest, nearest_point}
use Rattle.overlay_geom.proofs.AlongEdge.{sideE, over_le, in_order_between, between_turned}
use Rattle.overlay_geom.proofs.Cross.{crossE}
use Rattle.overlay_geom.proofs.Identities.{solve, number, ◌⊕◌, ◌⊗◌, ◌⊖◌, ◌≗◌}
use Rattle.overlay_geom.proofs.OneLine.{IsHeldBy}
use Rattle.overlay_geom.proofs.PointOrder.{IsBefore}
use Rattle.overlay_geom.proofs.Rounded.{nearest-unique, nearest_point-rounding}
use Rattle.overlay_geom.proofs.Signs.{linear, mul-pos, mul-zero, mul-nonneg, nonneg_of_mul-nonneg}
use Rattle.overlay_plane.specs.SnapPoints.{half_girth, line_meets}
use Rattle.overlay_plane.proofs.PixelTests.{IsInBox, twice_cross, girth_rising, girth_falling, Decides-rising}
use Rattle.overlay_plane.proofs.PixelTests.{Decides-falling}
use Rattle.overlay_plane.proofs.WholeOnEdges.{at_itself, on_of_held}
use Rattle.overlay_plane.proofs.WholePlaces.{rounded_whole}

-- a point of e rounds to v
abbrev pub PointFor : Edge → Point → Type 0
PointFor e v = (p : PlanePoint) × IsOn e p × (nearest_point p ≡ v)

-- v itself, where e holds it
pub held_point : (e : Edge) (v : Point) → IsBefore e.a e.b → IsHeldBy e v → PointFor e v
held_point e v forward held = (
  in_plane v,
  on_of_held e v (in_plane v) forward (at_itself v) held,
  rounded_whole nearest_point v (in_plane v) nearest_point-rounding (at_itself v),
)

-- a whole number is nearest to a number less than 1/2 above it, or at most 1/2 below
nearest_beside : (v d r : ℤ) → pos 0 <ℤ d → (pos 0 -ℤ d) ≤ℤ (pos 2 *ℤ r) → (pos 2 *ℤ r) <ℤ d →
    nearest (v *ℤ d +ℤ r) d ≡ v
nearest_beside v d r positive low high =
    let form = solve 3 (λ v d r. number (pos 2) ⊗ (v ⊗ d ⊕ r) ≗ number (pos 2) ⊗ v ⊗ d ⊕ number (pos 2) ⊗ r) tt v d r in
    nearest-unique (v *ℤ d +ℤ r) d v positive (omega linear) (omega linear)

-- twice a number is the number and itself
twice_of : (z : ℤ) → pos 2 *ℤ z ≡ z +ℤ z
twice_of z = solve 1 (λ z. number (pos 2) ⊗ z ≗ z ⊕ z) tt z

-- where positive multiples of two numbers are equal, they have one sign
same_sign : (m n s t : ℤ) → pos 0 <ℤ m → pos 0 <ℤ n → m *ℤ s ≡ n *ℤ t → pos 0 ≤ℤ s → pos 0 ≤ℤ t
same_sign m n s t m_pos n_pos is h =
    let product = mul-nonneg m s (omega linear) h in
    nonneg_of_mul-nonneg n t n_pos (omega linear)

-- ---- edges that rise to the right

module _ (e : Edge) (wide : e.a.x <ℤ e.b.x) (rises : e.a.y <ℤ e.b.y) where
  module _ (p : PlanePoint) (on_line : side e p ≡ pos 0) where
    -- the distances from the start are as the slope
    rise_from_start : (e.b.x -ℤ e.a.x) *ℤ (p.y -ℤ e.a.y *ℤ p.d) ≡ (e.b.y -ℤ e.a.y) *ℤ (p.x -ℤ e.a.x *ℤ p.d)
    rise_from_start = omega linear

    -- and those from the end
    rise_to_end : (e.b.x -ℤ e.a.x) *ℤ (e.b.y *ℤ p.d -ℤ p.y) ≡ (e.b.y -ℤ e.a.y) *ℤ (e.b.x *ℤ p.d -ℤ p.x)
    rise_to_end =
        let form = solve 7 (λ ax ay bx by x y d. (bx ⊖ ax) ⊗ (by ⊗ d ⊖ y) ≗ (by ⊖ ay) ⊗ (bx ⊗ d ⊖ x) ⊖ sideE ax ay bx by
        x y d) tt e.a.x e.a.y e.b.x e.b.y p.x p.y p.d in
        omega linear

    -- a point of the line right of the start and below the end is on the edge. So is a point left of the end and above
    -- the start
    on_rising : (((e.a.x *ℤ p.d) ≤ℤ p.x) × (p.y ≤ℤ (e.b.y *ℤ p.d))) ⊎
        ((p.x ≤ℤ (e.b.x *ℤ p.d)) × ((e.a.y *ℤ p.d) ≤ℤ p.y)) → IsOn e p
    on_rising (inl (right, below)) =
        let above = same_sign (e.b.y -ℤ e.a.y) (e.b.x -ℤ e.a.x) (p.x -ℤ e.a.x *ℤ p.d) (p.y -ℤ e.a.y *ℤ p.d)
        (omega linear) (omega linear) (let is = rise_from_start in omega linear) (omega linear) in
        let left = same_sign (e.b.x -ℤ e.a.x) (e.b.y -ℤ e.a.y) (e.b.y *ℤ p.d -ℤ p.y) (e.b.x *ℤ p.d -ℤ p.x)
        (omega linear) (omega linear) rise_to_end (omega linear) in
        record { on_line = on_line; in_x = inl (right, omega linear); in_y = inl (omega linear, below) }
    on_rising (inr (left, above)) =
        let right = same_sign (e.b.x -ℤ e.a.x) (e.b.y -ℤ e.a.y) (p.y -ℤ e.a.y *ℤ p.d) (p.x -ℤ e.a.x *ℤ p.d)
        (omega linear) (omega linear) rise_from_start (omega linear) in
        let below = same_sign (e.b.y -ℤ e.a.y) (e.b.x -ℤ e.a.x) (e.b.x *ℤ p.d -ℤ p.x) (e.b.y *ℤ p.d -ℤ p.y)
        (omega linear) (omega linear) (let is = rise_to_end in omega linear) (omega linear) in
        record { on_line = on_line; in_x = inl (omega linear, left); in_y = inl (above, omega linear) }

  -- twice the width and the height of the edge together
  abbrev rising_size : ℤ
  rising_size = pos 2 *ℤ ((e.b.x -ℤ e.a.x) +ℤ (e.b.y -ℤ e.a.y))

  -- it is positive
  rising_size_positive : pos 0 <ℤ rising_size
  rising_size_positive = mul-pos (pos 2) ((e.b.x -ℤ e.a.x) +ℤ (e.b.y -ℤ e.a.y)) (record { lt = tt }) (omega linear)

  -- the point of the line on the falling diagonal through v
  abbrev rising_foot : Point → PlanePoint
  rising_foot v = record {
    x = v.x *ℤ rising_size +ℤ twice_cross e v;
    y = v.y *ℤ rising_size +ℤ (pos 0 -ℤ twice_cross e v);
    d = rising_size;
    positive = rising_size_positive;
  }

  -- it is on the line
  rising_foot_on_line : (v : Point) → side e (rising_foot v) ≡ pos 0
  rising_foot_on_line v = solve 6
      (λ ax ay bx by vx vy. sideE ax ay bx by
      (vx ⊗ (number (pos 2) ⊗ ((bx ⊖ ax) ⊕ (by ⊖ ay))) ⊕ number (pos 2) ⊗ crossE ax ay bx by vx vy)
      (vy ⊗ (number (pos 2) ⊗ ((bx ⊖ ax) ⊕ (by ⊖ ay))) ⊕ (number (pos 0) ⊖ number (pos 2) ⊗ crossE ax ay bx by vx vy))
      (number (pos 2) ⊗ ((bx ⊖ ax) ⊕ (by ⊖ ay))) ≗ number (pos 0))
      tt e.a.x e.a.y e.b.x e.b.y v.x v.y

  -- and on the edge, where v is in its box
  rising_foot_on : (v : Point) → IsInBox e v → IsOn e (rising_foot v)
  rising_foot_on v box =
      let in_x = in_order_between v.x e.a.x e.b.x (omega linear) box.0 in
      let in_y = in_order_between v.y e.a.y e.b.y (omega linear) box.1 in
      let right = over_le e.a.x v.x rising_size rising_size_positive in_x.0 in
      let left = over_le v.x e.b.x rising_size rising_size_positive in_x.1 in
      let above = over_le e.a.y v.y rising_size rising_size_positive in_y.0 in
      let below = over_le v.y e.b.y rising_size rising_size_positive in_y.1 in
      on_rising (rising_foot v) (rising_foot_on_line v)
      (by_lt_z (twice_cross e v) (pos 0) (λ lt. inr (omega linear, omega linear))
      (λ ge. inl (omega linear, omega linear)))

  -- v has such a point if its cross product is within the bounds
  pub rising_point : (v : Point) → IsInBox e v → (pos 0 -ℤ half_girth e) <ℤ twice_cross e v →
      twice_cross e v <ℤ half_girth e → PointFor e v
  rising_point v box low high =
      let girth = girth_rising e (omega linear) in
      let both = twice_of (twice_cross e v) in
      let both_turned = twice_of (pos 0 -ℤ twice_cross e v) in
      let whole = twice_of ((e.b.x -ℤ e.a.x) +ℤ (e.b.y -ℤ e.a.y)) in (
        rising_foot v,
        rising_foot_on v box,
        ap₂ (λ x y. record { x = x; y = y })
            (nearest_beside v.x rising_size (twice_cross e v) rising_size_positive (omega linear) (omega linear))
            (nearest_beside v.y rising_size (pos 0 -ℤ twice_cross e v) rising_size_positive (omega linear)
            (omega linear)),
      )

-- ---- edges that fall to the right

module _ (e : Edge) (wide : e.a.x <ℤ e.b.x) (falls : e.b.y <ℤ e.a.y) where
  module _ (p : PlanePoint) (on_line : side e p ≡ pos 0) where
    -- the distances from the start are as the slope
    fall_from_start : (e.b.x -ℤ e.a.x) *ℤ (e.a.y *ℤ p.d -ℤ p.y) ≡ (e.a.y -ℤ e.b.y) *ℤ (p.x -ℤ e.a.x *ℤ p.d)
    fall_from_start =
        let form = solve 7 (λ ax ay bx by x y d. (bx ⊖ ax) ⊗ (ay ⊗ d ⊖ y) ≗ (ay ⊖ by) ⊗ (x ⊖ ax ⊗ d) ⊖ sideE ax ay bx by
        x y d) tt e.a.x e.a.y e.b.x e.b.y p.x p.y p.d in
        omega linear

    -- and those from the end
    fall_to_end : (e.b.x -ℤ e.a.x) *ℤ (p.y -ℤ e.b.y *ℤ p.d) ≡ (e.a.y -ℤ e.b.y) *ℤ (e.b.x *ℤ p.d -ℤ p.x)
    fall_to_end =
        let form = solve 7 (λ ax ay bx by x y d. (bx ⊖ ax) ⊗ (y ⊖ by ⊗ d) ≗ (ay ⊖ by) ⊗ (bx ⊗ d ⊖ x) ⊕ sideE ax ay bx by
        x y d) tt e.a.x e.a.y e.b.x e.b.y p.x p.y p.d in
        omega linear

    -- a point of the line right of the start and above the end is on the edge. So is a point left of the end and below
    -- the start
    on_falling : (((e.a.x *ℤ p.d) ≤ℤ p.x) × ((e.b.y *ℤ p.d) ≤ℤ p.y)) ⊎
        ((p.x ≤ℤ (e.b.x *ℤ p.d)) × (p.y ≤ℤ (e.a.y *ℤ p.d))) → IsOn e p
    on_falling (inl (right, above)) =
        let below = same_sign (e.a.y -ℤ e.b.y) (e.b.x -ℤ e.a.x) (p.x -ℤ e.a.x *ℤ p.d) (e.a.y *ℤ p.d -ℤ p.y)
        (omega linear) (omega linear) (sym fall_from_start) (omega linear) in
        let left = same_sign (e.b.x -ℤ e.a.x) (e.a.y -ℤ e.b.y) (p.y -ℤ e.b.y *ℤ p.d) (e.b.x *ℤ p.d -ℤ p.x)
        (omega linear) (omega linear) fall_to_end (omega linear) in
        record { on_line = on_line; in_x = inl (right, omega linear); in_y = inr (above, omega linear) }
    on_falling (inr (left, below)) =
        let right = same_sign (e.b.x -ℤ e.a.x) (e.a.y -ℤ e.b.y) (e.a.y *ℤ p.d -ℤ p.y) (p.x -ℤ e.a.x *ℤ p.d)
        (omega linear) (omega linear) fall_from_start (omega linear) in
        let above = same_sign (e.a.y -ℤ e.b.y) (e.b.x -ℤ e.a.x) (e.b.x *ℤ p.d -ℤ p.x) (p.y -ℤ e.b.y *ℤ p.d)
        (omega linear) (omega linear) (sym fall_to_end) (omega linear) in
        record { on_line = on_line; in_x = inl (omega linear, left); in_y = inr (omega linear, below) }

  -- twice the width and the height of the edge together
  abbrev falling_size : ℤ
  falling_size = pos 2 *ℤ ((e.b.x -ℤ e.a.x) +ℤ (e.a.y -ℤ e.b.y))

  -- it is positive
  falling_size_positive : pos 0 <ℤ falling_size
  falling_size_positive = mul-pos (pos 2) ((e.b.x -ℤ e.a.x) +ℤ (e.a.y -ℤ e.b.y)) (record { lt = tt }) (omega linear)

  -- the point of the line on the rising diagonal through v
  abbrev falling_foot : Point → PlanePoint
  falling_foot v = record {
    x = v.x *ℤ falling_size +ℤ (pos 0 -ℤ twice_cross e v);
    y = v.y *ℤ falling_size +ℤ (pos 0 -ℤ twice_cross e v);
    d = falling_size;
    positive = falling_size_positive;
  }

  -- it is on the line
  falling_foot_on_line : (v : Point) → side e (falling_foot v) ≡ pos 0
  falling_foot_on_line v = solve 6
      (λ ax ay bx by vx vy. sideE ax ay bx by
      (vx ⊗ (number (pos 2) ⊗ ((bx ⊖ ax) ⊕ (ay ⊖ by))) ⊕ (number (pos 0) ⊖ number (pos 2) ⊗ crossE ax ay bx by vx vy))
      (vy ⊗ (number (pos 2) ⊗ ((bx ⊖ ax) ⊕ (ay ⊖ by))) ⊕ (number (pos 0) ⊖ number (pos 2) ⊗ crossE ax ay bx by vx vy))
      (number (pos 2) ⊗ ((bx ⊖ ax) ⊕ (ay ⊖ by))) ≗ number (pos 0))
      tt e.a.x e.a.y e.b.x e.b.y v.x v.y

  -- and on the edge, where v is in its box
  falling_foot_on : (v : Point) → IsInBox e v → IsOn e (falling_foot v)
  falling_foot_on v box =
      let in_x = in_order_between v.x e.a.x e.b.x (omega linear) box.0 in
      let in_y = in_order_between v.y e.b.y e.a.y (omega linear) (between_turned v.y e.a.y e.b.y box.1) in
      let right = over_le e.a.x v.x falling_size falling_size_positive in_x.0 in
      let left = over_le v.x e.b.x falling_size falling_size_positive in_x.1 in
      let above = over_le e.b.y v.y falling_size falling_size_positive in_y.0 in
      let below = over_le v.y e.a.y falling_size falling_size_positive in_y.1 in
      on_falling (falling_foot v) (falling_foot_on_line v)
      (by_lt_z (twice_cross e v) (pos 0) (λ lt. inl (omega linear, omega linear))
      (λ ge. inr (omega linear, omega linear)))

  -- v has such a point if its cross product is within the bounds or at the upper bound
  pub falling_point : (v : Point) → IsInBox e v → (pos 0 -ℤ half_girth e) <ℤ twice_cross e v →
      twice_cross e v ≤ℤ half_girth e → PointFor e v
  falling_point v box low high =
      let girth = girth_falling e (omega linear) in
      let both = twice_of (pos 0 -ℤ twice_cross e v) in
      let whole = twice_of ((e.b.x -ℤ e.a.x) +ℤ (e.a.y -ℤ e.b.y)) in (
        falling_foot v,
        falling_foot_on v box,
        ap₂ (λ x y. record { x = x; y = y })
            (nearest_beside v.x falling_size (pos 0 -ℤ twice_cross e v) falling_size_positive (omega linear)
            (omega linear))
            (nearest_beside v.y falling_size (pos 0 -ℤ twice_cross e v) falling_size_positive (omega linear)
            (omega linear)),
      )

-- ---- all edges

module _ (e : Edge) (before : IsBefore e.a e.b) (v : Point) (box : IsInBox e v) where
  -- a level edge holds each whole point in its box
  level_point : e.a.x <ℤ e.b.x → e.a.y ≡ e.b.y → PointFor e v
  level_point wide level =
      let in_x = in_order_between v.x e.a.x e.b.x (omega linear) box.0 in
      let in_y = in_order_between v.y e.a.y e.b.y (omega linear) box.1 in
      let same : v.y -ℤ e.a.y ≡ pos 0 = (let low = in_y.0 in let high = in_y.1 in omega linear) in
      let along = mul-zero (e.b.x -ℤ e.a.x) (v.y -ℤ e.a.y) same in
      let flat = mul-zero (v.x -ℤ e.a.x) (e.b.y -ℤ e.a.y) (omega linear) in
      let turned = *ℤ_comm (v.x -ℤ e.a.x) (e.b.y -ℤ e.a.y) in
      held_point e v before (record {
        on_line = omega linear;
        from = record { x = in_x.0; y = λ le. omega linear };
        to = record { x = in_x.1; y = λ le. omega linear };
      })

  -- an upright edge has such a point too
  upright_point : e.b.x ≤ℤ e.a.x → PointFor e v
  upright_point upright =
      let first = before.x in
      let in_x = in_order_between v.x e.a.x e.b.x first box.0 in
      let in_y = in_order_between v.y e.a.y e.b.y (let up = before.y upright in omega linear) box.1 in
      let same : v.x -ℤ e.a.x ≡ pos 0 = (let low = in_x.0 in let high = in_x.1 in omega linear) in
      let along = mul-zero (e.b.y -ℤ e.a.y) (v.x -ℤ e.a.x) same in
      let thin = mul-zero (v.y -ℤ e.a.y) (e.b.x -ℤ e.a.x) (omega linear) in
      let turned = *ℤ_comm (v.y -ℤ e.a.y) (e.b.x -ℤ e.a.x) in
      held_point e v before (record {
        on_line = omega linear;
        from = record { x = in_x.0; y = λ le. in_y.0 };
        to = record { x = in_x.1; y = λ le. in_y.1 };
      })

  -- an edge in whose box v is and whose line passes the test has a point that rounds to v
  pub point_in_pixel : line_meets e v ≡ true → PointFor e v
  point_in_pixel passes = by_lt_z e.a.x e.b.x
      (λ wide. by_lt_z e.a.y e.b.y
      (λ rises. let bounds = (Decides-rising e v wide rises).0 passes in
      rising_point e wide rises v box bounds.0 bounds.1)
      (λ most. by_lt_z e.b.y e.a.y
      (λ falls. let bounds = (Decides-falling e v wide most).0 passes in
      falling_point e wide falls v box bounds.0 bounds.1)
      (λ least. level_point wide (omega linear))))
      upright_point
