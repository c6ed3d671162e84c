-- Points at parts of an edge are in the order of the parts: by x, and by y where the edge is upright.
use Rattle.std.proofs.Common.{◌≡◌, ◌↔◌, inl, inr, ℤ, pos, ◌+ℤ◌, ◌-ℤ◌, ◌*ℤ◌, ◌<ℤ◌, ◌≤ℤ◌, ap₂, ◌∙◌}
use Rattle.std.proofs.lemmas.Int.{by_lt_z}
use Rattle.overlay_geom.specs.Plane.{PlanePoint, Edge, SamePlace}
use Rattle.overlay_geom.proofs.Identities.{solve, ◌⊕◌, ◌⊗◌, ◌⊖◌, ◌≗◌}
use Rattle.overlay_geom.proofs.PointOrder.{IsBefore}
use Rattle.overlay_geom.proofs.Signs.{linear, by_sign, mul-pos, mul-zero, pos_of_mul-pos, zero_of_mul-zero}
use Rattle.overlay_plane.specs.Rounds.{IsSmaller}
use Rattle.overlay_exact.specs.Parts.{Fraction, IsLess, AreEqual, LiesAt}

-- the difference of two coordinates, at parts n / d and m / c of a way of length w from a
difference : (a w n d m c x u y v : ℤ) → x *ℤ d ≡ (a *ℤ d +ℤ w *ℤ n) *ℤ u → y *ℤ c ≡ (a *ℤ c +ℤ w *ℤ m) *ℤ v →
    (d *ℤ c) *ℤ (y *ℤ u -ℤ x *ℤ v) ≡ (u *ℤ v) *ℤ (w *ℤ (m *ℤ d -ℤ n *ℤ c))
difference a w n d m c x u y v at_x at_y =
    solve 6 (λ d c x u y v. (d ⊗ c) ⊗ (y ⊗ u ⊖ x ⊗ v) ≗ (d ⊗ u) ⊗ (y ⊗ c) ⊖ (c ⊗ v) ⊗ (x ⊗ d)) tt d c x u y v
    ∙ ap₂ (λ q p. (d *ℤ u) *ℤ q -ℤ (c *ℤ v) *ℤ p) at_y at_x
    ∙ solve 8
    (λ a w n d m c u v. (d ⊗ u) ⊗ ((a ⊗ c ⊕ w ⊗ m) ⊗ v) ⊖ (c ⊗ v) ⊗ ((a ⊗ d ⊕ w ⊗ n) ⊗ u) ≗
    (u ⊗ v) ⊗ (w ⊗ (m ⊗ d ⊖ n ⊗ c)))
    tt a w n d m c u v

-- of two numbers equal but for positive factors, both are positive
scaled-pos : (k h x z : ℤ) → pos 0 <ℤ k → pos 0 <ℤ h → k *ℤ x ≡ h *ℤ z → pos 0 <ℤ z → pos 0 <ℤ x
scaled-pos k h x z k_pos h_pos same positive =
    let product = mul-pos h z h_pos positive in
    pos_of_mul-pos k x k_pos (omega linear)

-- or both are 0
scaled-zero : (k h x z : ℤ) → pos 0 <ℤ k → k *ℤ x ≡ h *ℤ z → z ≡ pos 0 → x ≡ pos 0
scaled-zero k h x z k_pos same none =
    let product = mul-zero h z none in
    zero_of_mul-zero k x k_pos (omega linear)

-- the product of 0 with a number
zero-mul : (w z : ℤ) → w ≡ pos 0 → w *ℤ z ≡ pos 0
zero-mul w z none = solve 2 (λ w z. w ⊗ z ≗ z ⊗ w) tt w z ∙ mul-zero z w none

module _ (e : Edge) (before : IsBefore e.a e.b) where
  module _ (s t : Fraction) (p q : PlanePoint) (s_pos : pos 0 <ℤ s.d) (t_pos : pos 0 <ℤ t.d) (at_p : LiesAt e s p)
      (at_q : LiesAt e t q) where
    -- how much greater the second part is, over both denominators
    abbrev more : ℤ
    more = t.n *ℤ s.d -ℤ s.n *ℤ t.d

    denominators : pos 0 <ℤ (s.d *ℤ t.d)
    denominators = mul-pos s.d t.d s_pos t_pos

    of_points : pos 0 <ℤ (p.d *ℤ q.d)
    of_points = mul-pos p.d q.d p.positive q.positive

    in_x : (s.d *ℤ t.d) *ℤ (q.x *ℤ p.d -ℤ p.x *ℤ q.d) ≡ (p.d *ℤ q.d) *ℤ ((e.b.x -ℤ e.a.x) *ℤ more)
    in_x = difference e.a.x (e.b.x -ℤ e.a.x) s.n s.d t.n t.d p.x p.d q.x q.d at_p.x at_q.x

    in_y : (s.d *ℤ t.d) *ℤ (q.y *ℤ p.d -ℤ p.y *ℤ q.d) ≡ (p.d *ℤ q.d) *ℤ ((e.b.y -ℤ e.a.y) *ℤ more)
    in_y = difference e.a.y (e.b.y -ℤ e.a.y) s.n s.d t.n t.d p.y p.d q.y q.d at_p.y at_q.y

    -- the point at the smaller part is smaller
    smaller_at_less : IsLess s t → IsSmaller p q
    smaller_at_less less = by_lt_z e.a.x e.b.x wide upright
      where
        wide : e.a.x <ℤ e.b.x → IsSmaller p q
        wide lt = inl (let right = scaled-pos (s.d *ℤ t.d) (p.d *ℤ q.d) (q.x *ℤ p.d -ℤ p.x *ℤ q.d)
            ((e.b.x -ℤ e.a.x) *ℤ more) denominators of_points in_x
            (mul-pos (e.b.x -ℤ e.a.x) more (omega linear) (omega linear)) in omega linear)

        upright : e.b.x ≤ℤ e.a.x → IsSmaller p q
        upright le =
            let level = scaled-zero (s.d *ℤ t.d) (p.d *ℤ q.d) (q.x *ℤ p.d -ℤ p.x *ℤ q.d) ((e.b.x -ℤ e.a.x) *ℤ more)
            denominators in_x
            (zero-mul (e.b.x -ℤ e.a.x) more (let ge = before.x in omega linear)) in
            let above = scaled-pos (s.d *ℤ t.d) (p.d *ℤ q.d) (q.y *ℤ p.d -ℤ p.y *ℤ q.d) ((e.b.y -ℤ e.a.y) *ℤ more)
            denominators of_points in_y
            (mul-pos (e.b.y -ℤ e.a.y) more (let up = before.y le in omega linear) (omega linear)) in
            inr (omega linear, omega linear)

    -- points at equal parts are equal
    same_at_equal : AreEqual s t → SamePlace p q
    same_at_equal equal =
        let level_x = scaled-zero (s.d *ℤ t.d) (p.d *ℤ q.d) (q.x *ℤ p.d -ℤ p.x *ℤ q.d) ((e.b.x -ℤ e.a.x) *ℤ more)
        denominators in_x (mul-zero (e.b.x -ℤ e.a.x) more (omega linear)) in
        let level_y = scaled-zero (s.d *ℤ t.d) (p.d *ℤ q.d) (q.y *ℤ p.d -ℤ p.y *ℤ q.d) ((e.b.y -ℤ e.a.y) *ℤ more)
        denominators in_y (mul-zero (e.b.y -ℤ e.a.y) more (omega linear)) in
        (omega linear, omega linear)

  -- ---- one of three

  smaller-asymmetric : (p q : PlanePoint) → IsSmaller p q → IsSmaller q p → ⊥
  smaller-asymmetric p q (inl lt) (inl more) = omega linear
  smaller-asymmetric p q (inl lt) (inr (level, more)) = omega linear
  smaller-asymmetric p q (inr (level, lt)) (inl more) = omega linear
  smaller-asymmetric p q (inr (level, lt)) (inr (tied, more)) = omega linear

  smaller-elsewhere : (p q : PlanePoint) → IsSmaller p q → SamePlace p q → ⊥
  smaller-elsewhere p q (inl lt) (x, y) = omega linear
  smaller-elsewhere p q (inr (level, lt)) (x, y) = omega linear

  module _ (s t : Fraction) (p q : PlanePoint) (s_pos : pos 0 <ℤ s.d) (t_pos : pos 0 <ℤ t.d) (at_p : LiesAt e s p)
      (at_q : LiesAt e t q) where
    -- the part of the smaller point is less
    less_of_smaller : IsSmaller p q → IsLess s t
    less_of_smaller smaller = by_sign (t.n *ℤ s.d -ℤ s.n *ℤ t.d)
        (λ less. absurd (smaller-asymmetric p q smaller
        (smaller_at_less t s q p t_pos s_pos at_q at_p (omega linear))))
        (λ none. absurd (smaller-elsewhere p q smaller
        (same_at_equal s t p q s_pos t_pos at_p at_q (omega linear))))
        (λ more. omega linear)

    -- equal points have equal parts
    equal_of_same : SamePlace p q → AreEqual s t
    equal_of_same (x, y) = by_sign (t.n *ℤ s.d -ℤ s.n *ℤ t.d)
        (λ less. absurd (smaller-elsewhere q p
        (smaller_at_less t s q p t_pos s_pos at_q at_p (omega linear)) (omega linear, omega linear)))
        (λ none. omega linear)
        (λ more. absurd (smaller-elsewhere p q
        (smaller_at_less s t p q s_pos t_pos at_p at_q (omega linear)) (x, y)))

    -- points and parts compare alike
    pub compare_alike : (IsLess s t ↔ IsSmaller p q) × (AreEqual s t ↔ SamePlace p q)
    compare_alike = (
      (smaller_at_less s t p q s_pos t_pos at_p at_q, less_of_smaller),
      (same_at_equal s t p q s_pos t_pos at_p at_q, equal_of_same),
    )
