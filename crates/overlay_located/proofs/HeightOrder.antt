-- Edges in order of height: what two points tell of all points between them.
use Rattle.std.proofs.Common.{◌≡◌, ℕ, ℤ, pos, ◌+ℤ◌, ◌-ℤ◌, ◌*ℤ◌, ◌≤ℤ◌, false, sym, ◌∙◌}
use Rattle.std.specs.Ordering.{int_cmp, is_gt}
use Rattle.std.proofs.lemmas.Int.{by_lt_z}
use Rattle.overlay_geom.specs.Edges.{CountedEdge, ends_of}
use Rattle.overlay_geom.specs.Plane.{Point, cross_at, side, in_plane}
use Rattle.overlay_geom.proofs.AlongEdge.{sideE}
use Rattle.overlay_geom.proofs.Comparisons.{is_gt-int_cmp}
use Rattle.overlay_geom.proofs.Cross.{crossE}
use Rattle.overlay_geom.proofs.Identities.{solve, Expr, number, ◌⊕◌, ◌⊗◌, ◌⊖◌, ◌≗◌}
use Rattle.overlay_geom.proofs.Signs.{linear, mul-pos, mul-neg, mul-nonneg, mul-nonpos, nonneg_of_mul-nonneg}
use Rattle.overlay_plane.proofs.Tests.{ge_from_test}
use Rattle.overlay_order.specs.Content.{IsHeld}
use Rattle.overlay_relate.proofs.ByEdge.{leads_right}
use Rattle.overlay_located.specs.Chains.{lift, IsInSpan, IsUnder, IsUnderAt, StartsUnder, EndsUnder}

-- lift as it is written
abbrev liftE : (ax ay bx by cx cy dx dy x y : Expr) → Expr
liftE ax ay bx by cx cy dx dy x y =
    (dx ⊖ cx) ⊗ sideE ax ay bx by x y (number (pos 1)) ⊖ (bx ⊖ ax) ⊗ sideE cx cy dx dy x y (number (pos 1))

module _ (e f : CountedEdge) where
  -- between two points it grows evenly
  lift_between : (u w v : Point) →
      (w.x -ℤ u.x) *ℤ lift e f v ≡ (w.x -ℤ v.x) *ℤ lift e f u +ℤ (v.x -ℤ u.x) *ℤ lift e f w
  lift_between u w v = solve 14 (λ ax ay bx by cx cy dx dy ux uy wx wy x y.
      (wx ⊖ ux) ⊗ liftE ax ay bx by cx cy dx dy x y ≗ (wx ⊖ x) ⊗ liftE ax ay bx by cx cy dx dy ux uy ⊕ (x ⊖ ux) ⊗
      liftE ax ay bx by cx cy dx dy wx wy) tt e.a.x e.a.y e.b.x e.b.y f.a.x f.a.y f.b.x f.b.y u.x u.y w.x w.y v.x v.y

  -- where it is not negative the first edge is under the second
  under_where_lifted : (v : Point) → IsInSpan e v → IsInSpan f v → pos 0 ≤ℤ lift e f v → IsUnderAt e f v
  under_where_lifted v in_e in_f rises = record {
    above = λ high. by_lt_z (pos 0) (side (ends_of e) (in_plane v)) (λ lt. lt) (λ le.
        let one = mul-pos (e.b.x -ℤ e.a.x) (side (ends_of f) (in_plane v)) (omega linear) high in
        let two = mul-nonpos (f.b.x -ℤ f.a.x) (side (ends_of e) (in_plane v)) (omega linear) le in
        absurd (omega linear));
    below = λ low. by_lt_z (side (ends_of f) (in_plane v)) (pos 0) (λ lt. lt) (λ ge.
        let one = mul-nonneg (e.b.x -ℤ e.a.x) (side (ends_of f) (in_plane v)) (omega linear) ge in
        let two = mul-neg (f.b.x -ℤ f.a.x) (side (ends_of e) (in_plane v)) (omega linear) low in
        absurd (omega linear));
  }

  -- what both ends of the common span tell
  pub under_by_ends : StartsUnder e f → EndsUnder e f → IsUnder e f
  under_by_ends start end v in_e in_f =
      let left = start.left v.x in_e.from in_f.from in
      let right = end.right v.x in_e.to in_f.to in
      let even = lift_between start.at end.at v in
      let one = mul-nonneg (end.at.x -ℤ v.x) (lift e f start.at) (omega linear) start.rises in
      let two = mul-nonneg (v.x -ℤ start.at.x) (lift e f end.at) (omega linear) end.rises in
      under_where_lifted v in_e in_f
      (nonneg_of_mul-nonneg (end.at.x -ℤ start.at.x) (lift e f v) (omega linear) (omega linear))

  -- at ends of one edge it is a product
  lift_at_a : lift e f f.a ≡ (f.b.x -ℤ f.a.x) *ℤ (pos 0 -ℤ cross_at e.b e.a f.a)
  lift_at_a = solve 8 (λ ax ay bx by cx cy dx dy. liftE ax ay bx by cx cy dx dy cx cy ≗
      (dx ⊖ cx) ⊗ (number (pos 0) ⊖ crossE bx by ax ay cx cy)) tt e.a.x e.a.y e.b.x e.b.y f.a.x f.a.y f.b.x f.b.y

  lift_at_b : lift e f f.b ≡ (f.b.x -ℤ f.a.x) *ℤ (pos 0 -ℤ cross_at e.b e.a f.b)
  lift_at_b = solve 8 (λ ax ay bx by cx cy dx dy. liftE ax ay bx by cx cy dx dy dx dy ≗
      (dx ⊖ cx) ⊗ (number (pos 0) ⊖ crossE bx by ax ay dx dy)) tt e.a.x e.a.y e.b.x e.b.y f.a.x f.a.y f.b.x f.b.y

  lift_at_own_a : lift e f e.a ≡ (e.b.x -ℤ e.a.x) *ℤ (pos 0 -ℤ cross_at f.a f.b e.a)
  lift_at_own_a = solve 8 (λ ax ay bx by cx cy dx dy. liftE ax ay bx by cx cy dx dy ax ay ≗
      (bx ⊖ ax) ⊗ (number (pos 0) ⊖ crossE cx cy dx dy ax ay)) tt e.a.x e.a.y e.b.x e.b.y f.a.x f.a.y f.b.x f.b.y

  lift_at_own_b : lift e f e.b ≡ (e.b.x -ℤ e.a.x) *ℤ (pos 0 -ℤ cross_at f.a f.b e.b)
  lift_at_own_b = solve 8 (λ ax ay bx by cx cy dx dy. liftE ax ay bx by cx cy dx dy bx by ≗
      (bx ⊖ ax) ⊗ (number (pos 0) ⊖ crossE cx cy dx dy bx by)) tt e.a.x e.a.y e.b.x e.b.y f.a.x f.a.y f.b.x f.b.y

-- a comparison with 0 that is not greater
not_greater : (w z : ℤ) → w ≡ z → is_gt (int_cmp w (pos 0)) ≡ false → z ≤ℤ pos 0
not_greater w z is test =
    let le = ge_from_test (pos 0) w (sym (is_gt-int_cmp w (pos 0)) ∙ test) in omega linear

module _ (limit : ℕ) (e f : CountedEdge) (e_held : IsHeld limit e) (f_held : IsHeld limit f) (w : ℤ) where
  pub starts_at_a : w ≡ cross_at e.b e.a f.a → is_gt (int_cmp w (pos 0)) ≡ false → StartsUnder e f
  starts_at_a is test = record {
    at = f.a;
    left = λ x in_e in_f. in_f;
    rises = let low = not_greater w (cross_at e.b e.a f.a) is test in
        let wide = leads_right (ends_of f) f_held.forward in
        let product = mul-nonneg (f.b.x -ℤ f.a.x) (pos 0 -ℤ cross_at e.b e.a f.a) (omega linear) (omega linear) in
        let same = lift_at_a e f in omega linear;
  }

  pub starts_at_own : w ≡ cross_at f.a f.b e.a → is_gt (int_cmp w (pos 0)) ≡ false → StartsUnder e f
  starts_at_own is test = record {
    at = e.a;
    left = λ x in_e in_f. in_e;
    rises = let low = not_greater w (cross_at f.a f.b e.a) is test in
        let wide = leads_right (ends_of e) e_held.forward in
        let product = mul-nonneg (e.b.x -ℤ e.a.x) (pos 0 -ℤ cross_at f.a f.b e.a) (omega linear) (omega linear) in
        let same = lift_at_own_a e f in omega linear;
  }

  pub ends_at_b : w ≡ cross_at e.b e.a f.b → is_gt (int_cmp w (pos 0)) ≡ false → EndsUnder e f
  ends_at_b is test = record {
    at = f.b;
    right = λ x in_e in_f. in_f;
    rises = let low = not_greater w (cross_at e.b e.a f.b) is test in
        let wide = leads_right (ends_of f) f_held.forward in
        let product = mul-nonneg (f.b.x -ℤ f.a.x) (pos 0 -ℤ cross_at e.b e.a f.b) (omega linear) (omega linear) in
        let same = lift_at_b e f in omega linear;
  }

  pub ends_at_own : w ≡ cross_at f.a f.b e.b → is_gt (int_cmp w (pos 0)) ≡ false → EndsUnder e f
  ends_at_own is test = record {
    at = e.b;
    right = λ x in_e in_f. in_e;
    rises = let low = not_greater w (cross_at f.a f.b e.b) is test in
        let wide = leads_right (ends_of e) e_held.forward in
        let product = mul-nonneg (e.b.x -ℤ e.a.x) (pos 0 -ℤ cross_at f.a f.b e.b) (omega linear) (omega linear) in
        let same = lift_at_own_b e f in omega linear;
  }
