-- Edges of which one ends where the other starts or left of it, or lies no higher than the other, do not cross.
use lib.IntN.{*ℤ_comm}
use Rattle.std.proofs.Common.{◌≡◌, inl, inr, true, false, Bool, ◌&&◌, refl, ℤ, pos, ◌+ℤ◌, ◌-ℤ◌, ◌*ℤ◌, neg_ℤ}
use Rattle.std.proofs.Common.{◌<ℤ◌, ◌≤ℤ◌}
use Rattle.std.proofs.lemmas.Bool.{and_parts, false_from_ne_true}
use Rattle.overlay_geom.specs.Plane.{Point, Edge, cross_at}
use Rattle.overlay_geom.proofs.Cross.{crossE}
use Rattle.overlay_geom.proofs.Crossing.{crossed_back}
use Rattle.overlay_geom.proofs.Identities.{solve, ◌⊕◌, ◌⊗◌, ◌⊖◌, ⊝◌, ◌≗◌}
use Rattle.overlay_geom.proofs.Signs.{linear, mul-zero, mul-nonneg, mul-nonpos, zero_of_mul-zero}
use Rattle.overlay_given.specs.Crossing.{cross, crosses_line}
use Rattle.overlay_given.proofs.SettledEdges.{AreOpposite, opposite_of_test}

-- a weighed sum of numbers up to 0 is one of numbers from 0 on only where all of them are 0
zeros : (k l m n a b c d : ℤ) → pos 0 <ℤ k → pos 0 <ℤ l → pos 0 <ℤ m → pos 0 <ℤ n → a ≤ℤ pos 0 → b ≤ℤ pos 0 →
    pos 0 ≤ℤ c → pos 0 ≤ℤ d → k *ℤ a +ℤ l *ℤ b ≡ m *ℤ c +ℤ n *ℤ d → (a ≡ pos 0) × (c ≡ pos 0) × (d ≡ pos 0)
zeros k l m n a b c d k_pos l_pos m_pos n_pos a_low b_low c_high d_high same =
    let first = mul-nonpos k a (omega linear) a_low in
    let second = mul-nonpos l b (omega linear) b_low in
    let third = mul-nonneg m c (omega linear) c_high in
    let fourth = mul-nonneg n d (omega linear) d_high in (
      zero_of_mul-zero k a k_pos (omega linear),
      zero_of_mul-zero m c m_pos (omega linear),
      zero_of_mul-zero n d n_pos (omega linear),
    )

-- the coordinate of the point in which the edges cross, less z, as a mean of the ends of each
abbrev OneMean : Edge → Edge → (Point → ℤ) → ℤ → Type 0
OneMean e f at z = neg_ℤ (cross_at f.a f.b e.b) *ℤ (at e.a -ℤ z) +ℤ cross_at f.a f.b e.a *ℤ (at e.b -ℤ z)
    ≡ cross_at e.a e.b f.b *ℤ (at f.a -ℤ z) +ℤ neg_ℤ (cross_at e.a e.b f.a) *ℤ (at f.b -ℤ z)

-- the same, with the other signs
abbrev OneMeanBack : Edge → Edge → (Point → ℤ) → ℤ → Type 0
OneMeanBack e f at z = cross_at f.a f.b e.b *ℤ (at e.a -ℤ z) +ℤ neg_ℤ (cross_at f.a f.b e.a) *ℤ (at e.b -ℤ z)
    ≡ neg_ℤ (cross_at e.a e.b f.b) *ℤ (at f.a -ℤ z) +ℤ cross_at e.a e.b f.a *ℤ (at f.b -ℤ z)

module _ (e f : Edge) (at : Point → ℤ) (z : ℤ) (mean : OneMean e f at z) (mean_back : OneMeanBack e f at z)
    (flat : at e.a ≡ z → at f.a ≡ z → at f.b ≡ z → cross_at f.a f.b e.a ≡ pos 0)
    (e_a : at e.a ≤ℤ z) (e_b : at e.b ≤ℤ z) (f_a : z ≤ℤ at f.a) (f_b : z ≤ℤ at f.b) where
  -- with the ends of e on different sides of z from those of f
  not_opposite : AreOpposite e f → AreOpposite f e → ⊥
  not_opposite (inl (c_a, c_b)) (inl (d_a, d_b)) = let same = crossed_back e f in omega linear
  not_opposite (inr (c_a, c_b)) (inr (d_a, d_b)) = let same = crossed_back e f in omega linear
  not_opposite (inr (c_a, c_b)) (inl (d_a, d_b)) =
      let none = zeros (neg_ℤ (cross_at f.a f.b e.b)) (cross_at f.a f.b e.a) (cross_at e.a e.b f.b)
      (neg_ℤ (cross_at e.a e.b f.a)) (at e.a -ℤ z) (at e.b -ℤ z) (at f.a -ℤ z) (at f.b -ℤ z) (omega linear) d_a c_b
      (omega linear) (omega linear) (omega linear) (omega linear) (omega linear) mean in
      let first = none.0 in
      let second = none.1 in
      let third = none.2 in
      let zero = flat (omega linear) (omega linear) (omega linear) in
      omega linear
  not_opposite (inl (c_a, c_b)) (inr (d_a, d_b)) =
      let none = zeros (cross_at f.a f.b e.b) (neg_ℤ (cross_at f.a f.b e.a)) (neg_ℤ (cross_at e.a e.b f.b))
      (cross_at e.a e.b f.a) (at e.a -ℤ z) (at e.b -ℤ z) (at f.a -ℤ z) (at f.b -ℤ z) d_b (omega linear) (omega linear)
      c_a (omega linear) (omega linear) (omega linear) (omega linear) mean_back in
      let first = none.0 in
      let second = none.1 in
      let third = none.2 in
      let zero = flat (omega linear) (omega linear) (omega linear) in
      omega linear

  uncrossed : cross e f ≡ false
  uncrossed = false_from_ne_true (cross e f) (λ test.
      let tests = and_parts (crosses_line e f) (crosses_line f e) test in
      not_opposite (opposite_of_test e f tests.0) (opposite_of_test f e tests.1))

-- a point on the upright line of f
flat_x : (e f : Edge) (z : ℤ) → e.a.x ≡ z → f.a.x ≡ z → f.b.x ≡ z → cross_at f.a f.b e.a ≡ pos 0
flat_x e f z e_a f_a f_b =
    let turned = *ℤ_comm (f.b.x -ℤ f.a.x) (e.a.y -ℤ f.a.y) in
    let first = mul-zero (e.a.y -ℤ f.a.y) (f.b.x -ℤ f.a.x) (omega linear) in
    let second = mul-zero (f.b.y -ℤ f.a.y) (e.a.x -ℤ f.a.x) (omega linear) in
    omega linear

-- on its level line
flat_y : (e f : Edge) (z : ℤ) → e.a.y ≡ z → f.a.y ≡ z → f.b.y ≡ z → cross_at f.a f.b e.a ≡ pos 0
flat_y e f z e_a f_a f_b =
    let turned = *ℤ_comm (f.b.y -ℤ f.a.y) (e.a.x -ℤ f.a.x) in
    let first = mul-zero (e.a.x -ℤ f.a.x) (f.b.y -ℤ f.a.y) (omega linear) in
    let second = mul-zero (f.b.x -ℤ f.a.x) (e.a.y -ℤ f.a.y) (omega linear) in
    omega linear

-- no end of e lies right of z, and none of f left of it
pub left_uncrossed : (e f : Edge) (z : ℤ) → e.a.x ≤ℤ z → e.b.x ≤ℤ z → z ≤ℤ f.a.x → z ≤ℤ f.b.x → cross e f ≡ false
left_uncrossed e f z = uncrossed e f (λ p. p.x) z
    (solve 9 (λ ax ay bx by cx cy dx dy m. ⊝ crossE cx cy dx dy bx by ⊗ (ax ⊖ m) ⊕ crossE cx cy dx dy ax ay ⊗ (bx ⊖ m)
    ≗ crossE ax ay bx by dx dy ⊗ (cx ⊖ m) ⊕ ⊝ crossE ax ay bx by cx cy ⊗ (dx ⊖ m)) tt e.a.x e.a.y e.b.x e.b.y f.a.x
    f.a.y f.b.x f.b.y z)
    (solve 9 (λ ax ay bx by cx cy dx dy m. crossE cx cy dx dy bx by ⊗ (ax ⊖ m) ⊕ ⊝ crossE cx cy dx dy ax ay ⊗ (bx ⊖ m)
    ≗ ⊝ crossE ax ay bx by dx dy ⊗ (cx ⊖ m) ⊕ crossE ax ay bx by cx cy ⊗ (dx ⊖ m)) tt e.a.x e.a.y e.b.x e.b.y f.a.x
    f.a.y f.b.x f.b.y z)
    (flat_x e f z)

-- no end of e lies above z, and none of f below it
pub below_uncrossed : (e f : Edge) (z : ℤ) → e.a.y ≤ℤ z → e.b.y ≤ℤ z → z ≤ℤ f.a.y → z ≤ℤ f.b.y → cross e f ≡ false
below_uncrossed e f z = uncrossed e f (λ p. p.y) z
    (solve 9 (λ ax ay bx by cx cy dx dy m. ⊝ crossE cx cy dx dy bx by ⊗ (ay ⊖ m) ⊕ crossE cx cy dx dy ax ay ⊗ (by ⊖ m)
    ≗ crossE ax ay bx by dx dy ⊗ (cy ⊖ m) ⊕ ⊝ crossE ax ay bx by cx cy ⊗ (dy ⊖ m)) tt e.a.x e.a.y e.b.x e.b.y f.a.x
    f.a.y f.b.x f.b.y z)
    (solve 9 (λ ax ay bx by cx cy dx dy m. crossE cx cy dx dy bx by ⊗ (ay ⊖ m) ⊕ ⊝ crossE cx cy dx dy ax ay ⊗ (by ⊖ m)
    ≗ ⊝ crossE ax ay bx by dx dy ⊗ (cy ⊖ m) ⊕ crossE ax ay bx by cx cy ⊗ (dy ⊖ m)) tt e.a.x e.a.y e.b.x e.b.y f.a.x
    f.a.y f.b.x f.b.y z)
    (flat_y e f z)

-- where one crosses the other, the other crosses it
pub cross_back : (e f : Edge) → cross e f ≡ false → cross f e ≡ false
cross_back e f test = by (crosses_line e f) (crosses_line f e) test
  where
    by : (s t : Bool) → (s && t) ≡ false → (t && s) ≡ false
    by true true is = is
    by true false is = refl
    by false true is = refl
    by false false is = refl
