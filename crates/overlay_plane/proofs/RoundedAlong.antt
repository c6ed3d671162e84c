-- Points of an edge that are rounded to whole points keep their order along it, and stay between its ends.
use lib.IntN.{*ℤ_comm}
use Rattle.std.proofs.Common.{◌≡◌, ⊎_elim, ℤ, ◌+ℤ◌, ◌-ℤ◌, ◌*ℤ◌, ◌<ℤ◌, ◌≤ℤ◌, sym, ap, ◌∙◌}
use Rattle.std.proofs.lemmas.Int.{by_lt_z}
use Rattle.overlay_geom.specs.Plane.{PlanePoint, Edge, side, IsOn}
use Rattle.overlay_geom.specs.Rounding.{nearest, nearest_point}
use Rattle.overlay_geom.proofs.Identities.{solve, ◌⊕◌, ◌⊗◌, ◌⊖◌, ◌≗◌}
use Rattle.overlay_geom.proofs.Signs.{linear, mul-zero, mul-nonneg, mul-nonpos, nonneg_of_mul-nonneg}
use Rattle.overlay_geom.proofs.Signs.{nonpos_of_mul-nonpos}
use Rattle.overlay_geom.proofs.PointOrder.{IsBefore}
use Rattle.overlay_geom.proofs.AlongEdge.{sideE, over_le, in_order_between, between_turned}
use Rattle.overlay_geom.proofs.Rounded.{whole_le_nearest, nearest_le_whole, nearest-le}
use Rattle.overlay_plane.specs.Rounds.{IsSmaller}
use Rattle.overlay_plane.proofs.AlongOrder.{IsUpToAlong, height_along-le}

-- two points of a line differ in y as they do in x, by its slope
slope : (ax ay bx by px py pd qx qy qd : ℤ) →
    (bx -ℤ ax) *ℤ (qy *ℤ pd -ℤ py *ℤ qd) ≡ (by -ℤ ay) *ℤ (qx *ℤ pd -ℤ px *ℤ qd)
    +ℤ (pd *ℤ ((bx -ℤ ax) *ℤ (qy -ℤ ay *ℤ qd) -ℤ (by -ℤ ay) *ℤ (qx -ℤ ax *ℤ qd)) -ℤ qd *ℤ
    ((bx -ℤ ax) *ℤ (py -ℤ ay *ℤ pd) -ℤ (by -ℤ ay) *ℤ (px -ℤ ax *ℤ pd)))
slope = solve 10 (λ ax ay bx by px py pd qx qy qd.
    (bx ⊖ ax) ⊗ (qy ⊗ pd ⊖ py ⊗ qd) ≗ (by ⊖ ay) ⊗ (qx ⊗ pd ⊖ px ⊗ qd) ⊕
    (pd ⊗ sideE ax ay bx by qx qy qd ⊖ qd ⊗ sideE ax ay bx by px py pd)) tt

module _ (e : Edge) (before : IsBefore e.a e.b) where
  -- a point of the edge is in its span in x
  in_span : (p : PlanePoint) → IsOn e p → ((e.a.x *ℤ p.d) ≤ℤ p.x) × (p.x ≤ℤ (e.b.x *ℤ p.d))
  in_span p on = in_order_between p.x (e.a.x *ℤ p.d) (e.b.x *ℤ p.d) (over_le e.a.x e.b.x p.d p.positive before.x)
      on.in_x

  -- where the edge rises, a point of it is not below its start nor above its end
  in_rise : (p : PlanePoint) → IsOn e p → e.a.y ≤ℤ e.b.y → ((e.a.y *ℤ p.d) ≤ℤ p.y) × (p.y ≤ℤ (e.b.y *ℤ p.d))
  in_rise p on rises = in_order_between p.y (e.a.y *ℤ p.d) (e.b.y *ℤ p.d) (over_le e.a.y e.b.y p.d p.positive rises)
      on.in_y

  -- where it falls, neither above its start nor below its end
  in_fall : (p : PlanePoint) → IsOn e p → e.b.y <ℤ e.a.y → ((e.b.y *ℤ p.d) ≤ℤ p.y) × (p.y ≤ℤ (e.a.y *ℤ p.d))
  in_fall p on falls = in_order_between p.y (e.b.y *ℤ p.d) (e.a.y *ℤ p.d)
      (over_le e.b.y e.a.y p.d p.positive (omega linear))
      (between_turned p.y (e.a.y *ℤ p.d) (e.b.y *ℤ p.d) on.in_y)

  -- the start comes up to each rounded point of the edge
  pub start_up_to_rounded : (p : PlanePoint) → IsOn e p → IsUpToAlong e e.a (nearest_point p)
  start_up_to_rounded p on = record {
    x = whole_le_nearest e.a.x p.x p.d p.positive (in_span p on).0;
    y = λ le. height_along-le e e.a.y (nearest p.y p.d)
        (λ rises. whole_le_nearest e.a.y p.y p.d p.positive (in_rise p on rises).0)
        (λ falls. nearest_le_whole e.a.y p.y p.d p.positive (in_fall p on falls).1);
  }

  -- and that up to the end
  pub rounded_up_to_end : (p : PlanePoint) → IsOn e p → IsUpToAlong e (nearest_point p) e.b
  rounded_up_to_end p on = record {
    x = nearest_le_whole e.b.x p.x p.d p.positive (in_span p on).1;
    y = λ le. height_along-le e (nearest p.y p.d) e.b.y
        (λ rises. nearest_le_whole e.b.y p.y p.d p.positive (in_rise p on rises).1)
        (λ falls. whole_le_nearest e.b.y p.y p.d p.positive (in_fall p on falls).0);
  }

  module _ (p q : PlanePoint) (on_p : IsOn e p) (on_q : IsOn e q) (smaller : IsSmaller p q) where
    -- the smaller point is not to the right
    not_right : (p.x *ℤ q.d) ≤ℤ (q.x *ℤ p.d)
    not_right = ⊎_elim (λ lt. omega linear) (λ both. let level = both.0 in omega linear) smaller

    -- the two points differ in y as they do in x, by the slope of the edge
    sloped : (e.b.x -ℤ e.a.x) *ℤ (q.y *ℤ p.d -ℤ p.y *ℤ q.d) ≡ (e.b.y -ℤ e.a.y) *ℤ (q.x *ℤ p.d -ℤ p.x *ℤ q.d)
    sloped =
        let identity = slope e.a.x e.a.y e.b.x e.b.y p.x p.y p.d q.x q.y q.d in
        let none_p = mul-zero q.d (side e p) on_p.on_line in
        let none_q = mul-zero p.d (side e q) on_q.on_line in
        omega linear

    -- points of an upright edge are above each other
    upright_level : e.b.x ≤ℤ e.a.x → p.x *ℤ q.d ≡ q.x *ℤ p.d
    upright_level upright =
        let span_p = in_span p on_p in
        let span_q = in_span q on_q in
        let back_p = over_le e.b.x e.a.x p.d p.positive upright in
        let back_q = over_le e.b.x e.a.x q.d q.positive upright in
        let at_p : p.x ≡ e.a.x *ℤ p.d = (let low = span_p.0 in let high = span_p.1 in omega linear) in
        let at_q : q.x ≡ e.a.x *ℤ q.d = (let low = span_q.0 in let high = span_q.1 in omega linear) in
        ap (λ z. z *ℤ q.d) at_p ∙ exchanged e.a.x p.d q.d ∙ sym (ap (λ z. z *ℤ p.d) at_q)
      where
        exchanged : (v d c : ℤ) → v *ℤ d *ℤ c ≡ v *ℤ c *ℤ d
        exchanged = solve 3 (λ v d c. v ⊗ d ⊗ c ≗ v ⊗ c ⊗ d) tt

    -- where the edge rises, the smaller point is not above
    not_above : e.a.y ≤ℤ e.b.y → (p.y *ℤ q.d) ≤ℤ (q.y *ℤ p.d)
    not_above rises = ⊎_elim (λ lt. by_lt_z e.a.x e.b.x (λ wide. slanted wide)
        (λ upright. absurd (let level = upright_level upright in omega linear)))
        (λ both. let lt = both.1 in omega linear) smaller
      where
        slanted : e.a.x <ℤ e.b.x → (p.y *ℤ q.d) ≤ℤ (q.y *ℤ p.d)
        slanted wide =
            let right = not_right in
            let up = mul-nonneg (e.b.y -ℤ e.a.y) (q.x *ℤ p.d -ℤ p.x *ℤ q.d) (omega linear) (omega linear) in
            let identity = sloped in
            let above = nonneg_of_mul-nonneg (e.b.x -ℤ e.a.x) (q.y *ℤ p.d -ℤ p.y *ℤ q.d) (omega linear)
            (omega linear) in
            omega linear

    -- where it falls, the smaller point is not below
    not_below : e.b.y <ℤ e.a.y → (q.y *ℤ p.d) ≤ℤ (p.y *ℤ q.d)
    not_below falls = by_lt_z e.a.x e.b.x (λ wide. slanted wide) (λ upright. absurd (let up = before.y upright in
        omega linear))
      where
        slanted : e.a.x <ℤ e.b.x → (q.y *ℤ p.d) ≤ℤ (p.y *ℤ q.d)
        slanted wide =
            let right = not_right in
            let down = mul-nonpos (q.x *ℤ p.d -ℤ p.x *ℤ q.d) (e.b.y -ℤ e.a.y) (omega linear) (omega linear) in
            let turned = *ℤ_comm (e.b.y -ℤ e.a.y) (q.x *ℤ p.d -ℤ p.x *ℤ q.d) in
            let identity = sloped in
            let below = nonpos_of_mul-nonpos (e.b.x -ℤ e.a.x) (q.y *ℤ p.d -ℤ p.y *ℤ q.d) (omega linear)
            (omega linear) in
            omega linear

    -- rounded, the smaller point comes up to the other along the edge
    pub rounded_up_to : IsUpToAlong e (nearest_point p) (nearest_point q)
    rounded_up_to = record {
      x = nearest-le p.x p.d q.x q.d p.positive q.positive not_right;
      y = λ le. height_along-le e (nearest p.y p.d) (nearest q.y q.d)
          (λ rises. nearest-le p.y p.d q.y q.d p.positive q.positive (not_above rises))
          (λ falls. nearest-le q.y q.d p.y p.d q.positive p.positive (not_below falls));
    }
