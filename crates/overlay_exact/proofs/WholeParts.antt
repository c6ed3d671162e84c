-- A whole point of an edge lies at the part that its way along the edge is of the edge's own.
use Rattle.std.proofs.Common.{◌≡◌, inl, inr, ℕ, ℤ, pos, ◌+ℤ◌, ◌-ℤ◌, ◌*ℤ◌, ◌<ℤ◌}
use Rattle.std.proofs.lemmas.Int.{by_lt_z}
use Rattle.overlay_geom.specs.Numbers.{Within}
use Rattle.overlay_geom.specs.Plane.{Point, Edge, IsBetween, IsOn, in_plane, side}
use Rattle.overlay_geom.specs.Points.{InRange}
use Rattle.overlay_geom.specs.Resolved.{IsLongEdge}
use Rattle.overlay_geom.proofs.AlongEdge.{sideE}
use Rattle.overlay_geom.proofs.Identities.{solve, number, ◌⊕◌, ◌⊗◌, ◌⊖◌, ◌≗◌}
use Rattle.overlay_geom.proofs.PointOrder.{IsBefore}
use Rattle.overlay_geom.proofs.Signs.{linear, mul-pos, mul-zero}
use Rattle.overlay_plane.proofs.Turning.{square_nonneg}
use Rattle.overlay_plane.proofs.WayAlong.{way, start_first, end_last}
use Rattle.overlay_exact.specs.Parts.{IsPart, LiesAt, way_to}

-- a number over the denominator 1
over_one : (z : ℤ) → z *ℤ pos 1 ≡ z
over_one = solve 1 (λ z. z ⊗ number (pos 1) ≗ z) tt

-- ---- ranges

-- a number between two others in range is in range
between-within : (m : ℕ) (z u v : ℤ) → Within m u → Within m v → IsBetween z (u *ℤ pos 1) (v *ℤ pos 1) → Within m z
between-within m z u v of_u of_v (inl (from, to)) =
    let first = over_one u in
    let last = over_one v in
    let low = of_u.low in
    let high = of_v.high in
    record { low = omega linear; high = omega linear }
between-within m z u v of_u of_v (inr (from, to)) =
    let first = over_one u in
    let last = over_one v in
    let low = of_v.low in
    let high = of_u.high in
    record { low = omega linear; high = omega linear }

-- a whole point of an edge in range is in range
pub in_range_of_on : (limit : ℕ) (e : Edge) (v : Point) → IsLongEdge limit e → IsOn e (in_plane v) → InRange limit v
in_range_of_on limit e v long on = record {
  x = between-within limit v.x e.a.x e.b.x long.a_in_range.x long.b_in_range.x on.in_x;
  y = between-within limit v.y e.a.y e.b.y long.a_in_range.y long.b_in_range.y on.in_y;
}

-- ---- the way along

-- the way as a product of vectors, one of them turned
pub turned_product : (e : Edge) (v : Point) (x y back ahead : ℤ) → x ≡ e.b.x -ℤ e.a.x → y ≡ e.b.y -ℤ e.a.y →
    back ≡ e.a.y -ℤ v.y → ahead ≡ v.x -ℤ e.a.x → x *ℤ ahead -ℤ y *ℤ back ≡ way_to e v
turned_product e v x y back ahead x_is y_is back_is ahead_is = rw (x_is, y_is, back_is, ahead_is)
    (solve 6
    (λ ax ay bx by vx vy. (bx ⊖ ax) ⊗ (vx ⊖ ax) ⊖ (by ⊖ ay) ⊗ (ay ⊖ vy) ≗ (bx ⊖ ax) ⊗ (vx ⊖ ax) ⊕ (by ⊖ ay) ⊗ (vy ⊖
    ay))
    tt e.a.x e.a.y e.b.x e.b.y v.x v.y)

module _ (e : Edge) (before : IsBefore e.a e.b) where
  -- the edge's own way is positive
  own_way : pos 0 <ℤ way_to e e.b
  own_way =
      let in_x = square_nonneg (e.b.x -ℤ e.a.x) in
      let in_y = square_nonneg (e.b.y -ℤ e.a.y) in
      by_lt_z e.a.x e.b.x
      (λ wide. let some = mul-pos (e.b.x -ℤ e.a.x) (e.b.x -ℤ e.a.x) (omega linear) (omega linear) in omega linear)
      (λ upright.
      let up = before.y upright in
      let some = mul-pos (e.b.y -ℤ e.a.y) (e.b.y -ℤ e.a.y) (omega linear) (omega linear) in
      omega linear)

  -- the way from the start is the difference of two distances along the edge
  way_from_start : (v : Point) → way_to e v ≡ way e (in_plane v) -ℤ way e (in_plane e.a)
  way_from_start v = solve 6
      (λ ax ay bx by vx vy. (bx ⊖ ax) ⊗ (vx ⊖ ax) ⊕ (by ⊖ ay) ⊗ (vy ⊖ ay) ≗ ((bx ⊖ ax) ⊗ vx ⊕ (by ⊖ ay) ⊗ vy) ⊖ ((bx ⊖
      ax) ⊗ ax ⊕ (by ⊖ ay) ⊗ ay))
      tt e.a.x e.a.y e.b.x e.b.y v.x v.y

  module _ (v : Point) (on : IsOn e (in_plane v)) (n d : ℤ) (n_is : n ≡ way_to e v) (d_is : d ≡ way_to e e.b) where
    -- the fraction is a part
    pub whole_is_part : IsPart (record { n = n; d = d })
    whole_is_part =
        let start = start_first e before (in_plane v) on in
        let end = end_last e before (in_plane v) on in
        let positive = own_way in
        let of_v = way_from_start v in
        let of_end = way_from_start e.b in
        let one_a = over_one (way e (in_plane e.a)) in
        let one_b = over_one (way e (in_plane e.b)) in
        let one_v = over_one (way e (in_plane v)) in
        record { begun = omega linear; within = omega linear; positive = omega linear }

    -- and the point lies there
    pub whole_lies_at : LiesAt e (record { n = n; d = d }) (in_plane v)
    whole_lies_at = rw (n_is, d_is) (record { x = omega (linear, in_x); y = omega (linear, in_y) })
      where
        none : side e (in_plane v) ≡ pos 0
        none = on.on_line

        in_x : v.x *ℤ way_to e e.b ≡ (e.a.x *ℤ way_to e e.b +ℤ (e.b.x -ℤ e.a.x) *ℤ way_to e v) *ℤ pos 1
        in_x =
            let identity = solve 6
            (λ ax ay bx by vx vy. vx ⊗ ((bx ⊖ ax) ⊗ (bx ⊖ ax) ⊕ (by ⊖ ay) ⊗ (by ⊖ ay)) ≗ (ax ⊗ ((bx ⊖ ax) ⊗ (bx ⊖ ax) ⊕
            (by ⊖ ay) ⊗ (by ⊖ ay)) ⊕ (bx ⊖ ax) ⊗ ((bx ⊖ ax) ⊗ (vx ⊖ ax) ⊕ (by ⊖ ay) ⊗ (vy ⊖ ay))) ⊗ number (pos 1) ⊖
            (by ⊖ ay) ⊗ sideE ax ay bx by vx vy (number (pos 1)))
            tt e.a.x e.a.y e.b.x e.b.y v.x v.y in
            let product = mul-zero (e.b.y -ℤ e.a.y) (side e (in_plane v)) none in
            omega linear

        in_y : v.y *ℤ way_to e e.b ≡ (e.a.y *ℤ way_to e e.b +ℤ (e.b.y -ℤ e.a.y) *ℤ way_to e v) *ℤ pos 1
        in_y =
            let identity = solve 6
            (λ ax ay bx by vx vy. vy ⊗ ((bx ⊖ ax) ⊗ (bx ⊖ ax) ⊕ (by ⊖ ay) ⊗ (by ⊖ ay)) ≗ (ay ⊗ ((bx ⊖ ax) ⊗ (bx ⊖ ax) ⊕
            (by ⊖ ay) ⊗ (by ⊖ ay)) ⊕ (by ⊖ ay) ⊗ ((bx ⊖ ax) ⊗ (vx ⊖ ax) ⊕ (by ⊖ ay) ⊗ (vy ⊖ ay))) ⊗ number (pos 1) ⊕
            (bx ⊖ ax) ⊗ sideE ax ay bx by vx vy (number (pos 1)))
            tt e.a.x e.a.y e.b.x e.b.y v.x v.y in
            let product = mul-zero (e.b.x -ℤ e.a.x) (side e (in_plane v)) none in
            omega linear
