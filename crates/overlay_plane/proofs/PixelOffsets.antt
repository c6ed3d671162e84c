-- A point of an edge that rounds to a whole point: the greatest distance of the whole point from the edge's line.
use Rattle.std.proofs.Common.{◌≡◌, ℤ, pos, ◌+ℤ◌, ◌-ℤ◌, ◌*ℤ◌, ◌<ℤ◌, ◌≤ℤ◌}
use Rattle.overlay_geom.proofs.Identities.{solve, number, ◌⊕◌, ◌⊗◌, ◌⊖◌, ◌≗◌}
use Rattle.overlay_geom.proofs.AlongEdge.{sideE}
use Rattle.overlay_geom.proofs.Cross.{crossE}
use Rattle.overlay_geom.proofs.Signs.{linear, mul-lt, mul-le, lt_of_mul-lt, le_of_mul-le}

-- twice the cross product of the whole point (v, w), over the denominator d of a point (x / d, y / d): twice the
-- point's side, and how far the two points are apart by the edge's width and rise
pub offset_form : (ax ay bx by v w x y d : ℤ) →
    d *ℤ (pos 2 *ℤ ((bx -ℤ ax) *ℤ (w -ℤ ay) -ℤ (by -ℤ ay) *ℤ (v -ℤ ax))) ≡
    pos 2 *ℤ ((bx -ℤ ax) *ℤ (y -ℤ ay *ℤ d) -ℤ (by -ℤ ay) *ℤ (x -ℤ ax *ℤ d))
    +ℤ ((bx -ℤ ax) *ℤ (pos 2 *ℤ w *ℤ d -ℤ pos 2 *ℤ y) +ℤ (by -ℤ ay) *ℤ (pos 2 *ℤ x -ℤ pos 2 *ℤ v *ℤ d))
offset_form = solve 9 (λ ax ay bx by v w x y d.
    d ⊗ (number (pos 2) ⊗ crossE ax ay bx by v w) ≗ number (pos 2) ⊗ sideE ax ay bx by x y d ⊕
    ((bx ⊖ ax) ⊗ (number (pos 2) ⊗ w ⊗ d ⊖ number (pos 2) ⊗ y) ⊕
    (by ⊖ ay) ⊗ (number (pos 2) ⊗ x ⊖ number (pos 2) ⊗ v ⊗ d))) tt

-- the number c is, over d, m times s and n times t together: the bounds of s and t, which are -d and d, give its own
module _ (m n s t d c : ℤ) (positive : pos 0 <ℤ d) (is : d *ℤ c ≡ m *ℤ s +ℤ n *ℤ t) where
  -- a bound over the denominator
  bound : d *ℤ (m +ℤ n) ≡ m *ℤ d +ℤ n *ℤ d
  bound = solve 3 (λ m n d. d ⊗ (m ⊕ n) ≗ m ⊗ d ⊕ n ⊗ d) tt m n d

  -- and the lower
  lower_bound : d *ℤ (pos 0 -ℤ (m +ℤ n)) ≡ m *ℤ (pos 0 -ℤ d) +ℤ n *ℤ (pos 0 -ℤ d)
  lower_bound = solve 3 (λ m n d. d ⊗ (number (pos 0) ⊖ (m ⊕ n)) ≗ m ⊗ (number (pos 0) ⊖ d) ⊕
      n ⊗ (number (pos 0) ⊖ d)) tt m n d

  -- the sum is more than the lower bound, where the first is
  pub above_lower : pos 0 <ℤ m → pos 0 ≤ℤ n → (pos 0 -ℤ d) <ℤ s → (pos 0 -ℤ d) ≤ℤ t → (pos 0 -ℤ (m +ℤ n)) <ℤ c
  above_lower m_pos n_nonneg low_s low_t =
      let first = mul-lt m (pos 0 -ℤ d) s m_pos low_s in
      let second = mul-le n (pos 0 -ℤ d) t n_nonneg low_t in
      let both = lower_bound in
      let form = is in
      lt_of_mul-lt d (pos 0 -ℤ (m +ℤ n)) c positive (omega linear)

  -- at most the upper
  pub up_to_upper : pos 0 ≤ℤ m → pos 0 ≤ℤ n → s ≤ℤ d → t ≤ℤ d → c ≤ℤ (m +ℤ n)
  up_to_upper m_nonneg n_nonneg high_s high_t =
      let first = mul-le m s d m_nonneg high_s in
      let second = mul-le n t d n_nonneg high_t in
      let both = bound in
      let form = is in
      le_of_mul-le d c (m +ℤ n) positive (omega linear)

  -- at least the lower
  pub from_lower : pos 0 ≤ℤ m → pos 0 ≤ℤ n → (pos 0 -ℤ d) ≤ℤ s → (pos 0 -ℤ d) ≤ℤ t → (pos 0 -ℤ (m +ℤ n)) ≤ℤ c
  from_lower m_nonneg n_nonneg low_s low_t =
      let first = mul-le m (pos 0 -ℤ d) s m_nonneg low_s in
      let second = mul-le n (pos 0 -ℤ d) t n_nonneg low_t in
      let both = lower_bound in
      let form = is in
      le_of_mul-le d (pos 0 -ℤ (m +ℤ n)) c positive (omega linear)

  -- and less than the upper, where the second is
  pub below_upper : pos 0 ≤ℤ m → pos 0 <ℤ n → s ≤ℤ d → t <ℤ d → c <ℤ (m +ℤ n)
  below_upper m_nonneg n_pos high_s high_t =
      let first = mul-le m s d m_nonneg high_s in
      let second = mul-lt n t d n_pos high_t in
      let both = bound in
      let form = is in
      lt_of_mul-lt d c (m +ℤ n) positive (omega linear)
