-- One cross product tells whether some point of an edge rounds to a whole point.
use Rattle.std.proofs.Common.{◌≡◌, inr, ⊎_elim, true, ℤ, pos, ◌+ℤ◌, ◌-ℤ◌, ◌*ℤ◌, neg_ℤ, ◌<ℤ◌, ◌≤ℤ◌, sym, subst}
use Rattle.std.proofs.lemmas.Int.{by_lt_z}
use Rattle.overlay_geom.specs.Plane.{Point, PlanePoint, Edge, IsOn, side}
use Rattle.overlay_geom.specs.Rounding.{nearest_point}
use Rattle.overlay_geom.proofs.Identities.{solve, ◌⊗◌, ◌⊖◌, ⊝◌, ◌≗◌}
use Rattle.overlay_geom.proofs.OneLine.{holds_start, holds_end}
use Rattle.overlay_geom.proofs.PointOrder.{IsBefore}
use Rattle.overlay_geom.proofs.Rounded.{nearest-strict, nearest-within, nearest-between}
use Rattle.overlay_geom.proofs.Signs.{linear, mul-zero}
use Rattle.overlay_plane.specs.SnapPoints.{line_meets, meets_pixel, PixelsMetByTest}
use Rattle.overlay_plane.proofs.PixelOffsets.{offset_form, above_lower, up_to_upper, from_lower, below_upper}
use Rattle.overlay_plane.proofs.PixelPoints.{PointFor, held_point, point_in_pixel}
use Rattle.overlay_plane.proofs.PixelTests.{IsInBox, twice_cross, Decides-rising, Decides-falling, Decides-upright}
use Rattle.overlay_plane.proofs.PixelTests.{girth_rising, girth_falling, Decides-meets_pixel}
use Rattle.overlay_plane.proofs.WholeOnEdges.{forward_from_test}

-- ---- a point of the edge

module _ (e : Edge) (before : IsBefore e.a e.b) (p : PlanePoint) (on : IsOn e p) where
  -- the whole point nearest p
  abbrev v : Point
  v = nearest_point p

  -- how far p is below it, doubled and over the denominator
  abbrev below : ℤ
  below = pos 2 *ℤ v.y *ℤ p.d -ℤ pos 2 *ℤ p.y

  -- and how far to its right
  abbrev right : ℤ
  right = pos 2 *ℤ p.x -ℤ pos 2 *ℤ v.x *ℤ p.d

  -- it is less than 1/2 above and at most 1/2 below
  below_bounds : ((pos 0 -ℤ p.d) <ℤ below) × (below ≤ℤ p.d)
  below_bounds =
      let low = nearest-strict p.y p.d p.positive in
      let high = (nearest-within p.y p.d p.positive).1 in
      (omega linear, omega linear)

  -- and less than 1/2 to the right and at most 1/2 to the left
  right_bounds : ((pos 0 -ℤ p.d) ≤ℤ right) × (right <ℤ p.d)
  right_bounds =
      let low = nearest-strict p.x p.d p.positive in
      let high = (nearest-within p.x p.d p.positive).1 in
      (omega linear, omega linear)

  -- twice the cross product comes of these two
  form : p.d *ℤ twice_cross e v ≡ (e.b.x -ℤ e.a.x) *ℤ below +ℤ (e.b.y -ℤ e.a.y) *ℤ right
  form =
      let identity = offset_form e.a.x e.a.y e.b.x e.b.y v.x v.y p.x p.y p.d in
      let none = mul-zero (pos 2) (side e p) on.on_line in
      omega linear

  -- or of the first and the second turned, for a falling edge
  form_falling : p.d *ℤ twice_cross e v ≡ (e.b.x -ℤ e.a.x) *ℤ below +ℤ (e.a.y -ℤ e.b.y) *ℤ (neg_ℤ right)
  form_falling =
      let identity = form in
      let turned = solve 3 (λ ay by t. (ay ⊖ by) ⊗ (⊝ t) ≗ (by ⊖ ay) ⊗ t) tt e.a.y e.b.y right in
      omega linear

  -- the whole point is in the edge's box
  nearest_in_box : IsInBox e v
  nearest_in_box = (
    nearest-between p.x e.a.x e.b.x p.d p.positive on.in_x,
    nearest-between p.y e.a.y e.b.y p.d p.positive on.in_y,
  )

  -- the line passes the test
  line_passes : line_meets e v ≡ true
  line_passes = by_lt_z e.a.x e.b.x (λ wide. by_lt_z e.a.y e.b.y (rising wide) (falling wide)) upright
    where
      rising : e.a.x <ℤ e.b.x → e.a.y <ℤ e.b.y → line_meets e v ≡ true
      rising wide rises =
          let girth = girth_rising e (omega linear) in
          let low = above_lower (e.b.x -ℤ e.a.x) (e.b.y -ℤ e.a.y) below right p.d (twice_cross e v) p.positive form
          (omega linear) (omega linear) below_bounds.0 right_bounds.0 in
          let high = below_upper (e.b.x -ℤ e.a.x) (e.b.y -ℤ e.a.y) below right p.d (twice_cross e v) p.positive form
          (omega linear) (omega linear) below_bounds.1 right_bounds.1 in
          (Decides-rising e v wide rises).1 (omega linear, omega linear)

      falling : e.a.x <ℤ e.b.x → e.b.y ≤ℤ e.a.y → line_meets e v ≡ true
      falling wide falls =
          let girth = girth_falling e falls in
          let left_low = right_bounds.1 in
          let left_high = right_bounds.0 in
          let low = above_lower (e.b.x -ℤ e.a.x) (e.a.y -ℤ e.b.y) below (neg_ℤ right) p.d (twice_cross e v) p.positive
          form_falling (omega linear) (omega linear) below_bounds.0 (omega linear) in
          let high = up_to_upper (e.b.x -ℤ e.a.x) (e.a.y -ℤ e.b.y) below (neg_ℤ right) p.d (twice_cross e v) p.positive
          form_falling (omega linear) (omega linear) below_bounds.1 (omega linear) in
          (Decides-falling e v wide falls).1 (omega linear, omega linear)

      upright : e.b.x ≤ℤ e.a.x → line_meets e v ≡ true
      upright same =
          let up = before.y same in
          let level = before.x in
          let girth = girth_rising e (omega linear) in
          let below_low = below_bounds.0 in
          let low = from_lower (e.b.x -ℤ e.a.x) (e.b.y -ℤ e.a.y) below right p.d (twice_cross e v) p.positive form
          (omega linear) (omega linear) (omega linear) right_bounds.0 in
          let high = below_upper (e.b.x -ℤ e.a.x) (e.b.y -ℤ e.a.y) below right p.d (twice_cross e v) p.positive form
          (omega linear) (omega linear) below_bounds.1 right_bounds.1 in
          (Decides-upright e v same).1 (omega linear, omega linear)

  -- so its pixel is met by the test
  pub pixel_met : meets_pixel e v ≡ true
  pixel_met = (Decides-meets_pixel e v).1 (inr (nearest_in_box, line_passes))

-- ---- a point for a met pixel

-- the test tells whether some point of a forward edge rounds to v
pub pixels_met_by_test : PixelsMetByTest
pixels_met_by_test e v forward = (found, met)
  where
    before : IsBefore e.a e.b
    before = forward_from_test e forward

    met : PointFor e v → meets_pixel e v ≡ true
    met (p, on, is) = subst (λ w. meets_pixel e w ≡ true) is (pixel_met e before p on)

    found : meets_pixel e v ≡ true → PointFor e v
    found passes = ⊎_elim
        (λ end. ⊎_elim (λ is. subst (PointFor e) (sym is) (held_point e e.a before (holds_start e before)))
        (λ is. subst (PointFor e) (sym is) (held_point e e.b before (holds_end e before))) end)
        (λ near. point_in_pixel e before v near.0 near.1)
        ((Decides-meets_pixel e v).0 passes)
