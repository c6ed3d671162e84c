-- An edge over the start of another that lies below that start, or above it, with both ends.
use Rattle.std.proofs.Common.{◌≡◌, Bool, true, false, cond, not, ℤ, pos, ◌-ℤ◌, ◌+ℤ◌, ◌*ℤ◌, ◌<ℤ◌, ◌≤ℤ◌, int_lt, refl}
use Rattle.std.proofs.Common.{ap, ◌∙◌}
use Rattle.overlay_geom.specs.Plane.{Edge, cross_at}
use Rattle.overlay_geom.proofs.Identities.{solve, ◌⊕◌, ◌⊗◌, ◌⊖◌, ◌≗◌}
use Rattle.overlay_geom.proofs.Signs.{linear, mul-pos, mul-neg, mul-nonneg, mul-nonpos}
use Rattle.overlay_plane.proofs.Tests.{lt_from_test, ge_from_test}
use Rattle.overlay_scan.specs.Lists.{is_lower_at_start, is_lower}
use Rattle.overlay_scan.proofs.AtStarts.{tested}

-- the cross product by the parts of the edge's width on both sides of the start
parted : (w h r t : ℤ) → w *ℤ h -ℤ r *ℤ t ≡ (w -ℤ t) *ℤ h +ℤ t *ℤ (h -ℤ r)
parted = solve 4 (λ w h r t. w ⊗ h ⊖ r ⊗ t ≗ (w ⊖ t) ⊗ h ⊕ t ⊗ (h ⊖ r)) tt

module _ (f e : Edge) (from : int_lt e.a.x f.a.x ≡ false) (ends : int_lt e.a.x f.b.x ≡ true) where
  abbrev left : ℤ
  left = e.a.x -ℤ f.a.x

  abbrev right : ℤ
  right = f.b.x -ℤ f.a.x -ℤ (e.a.x -ℤ f.a.x)

  abbrev height : ℤ
  height = e.a.y -ℤ f.a.y

  abbrev rest : ℤ
  rest = e.a.y -ℤ f.a.y -ℤ (f.b.y -ℤ f.a.y)

  parts : cross_at f.a f.b e.a ≡ right *ℤ height +ℤ left *ℤ rest
  parts = parted (f.b.x -ℤ f.a.x) height (f.b.y -ℤ f.a.y) left

  on_left : pos 0 ≤ℤ left
  on_left = let starts = ge_from_test e.a.x f.a.x from in omega linear

  on_right : pos 0 <ℤ right
  on_right = let to = lt_from_test e.a.x f.b.x ends in omega linear

  -- the test at the start of e decides
  at_start : (u : Bool) → is_lower_at_start f e ≡ u → is_lower f e ≡ u
  at_start u is = ap (λ t. cond t (not (is_lower_at_start e f)) (is_lower_at_start f e)) from ∙ is

  -- it is lower where it starts below, and does not end above
  pub lower_where_below : f.a.y <ℤ e.a.y → f.b.y ≤ℤ e.a.y → is_lower f e ≡ true
  lower_where_below starts_below ends_below =
      let one = mul-pos right height on_right (omega linear) in
      let other = mul-nonneg left rest on_left (omega linear) in
      let is = parts in
      at_start true (tested (cross_at f.a f.b e.a) (int_lt (pos 0) (cross_at e.a f.b e.b)) true (λ more. refl)
      (λ less. absurd (omega linear)) (λ zero. absurd (omega linear)))

  -- it is not lower where it starts above, and does not end below
  pub not_lower_where_above : e.a.y <ℤ f.a.y → e.a.y ≤ℤ f.b.y → is_lower f e ≡ false
  not_lower_where_above starts_above ends_above =
      let one = mul-neg right height on_right (omega linear) in
      let other = mul-nonpos left rest on_left (omega linear) in
      let is = parts in
      at_start false (tested (cross_at f.a f.b e.a) (int_lt (pos 0) (cross_at e.a f.b e.b)) false
      (λ more. absurd (omega linear)) (λ less. refl) (λ zero. absurd (omega linear)))
