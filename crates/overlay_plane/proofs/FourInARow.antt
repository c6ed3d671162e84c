-- Four points in a row, of which the first three and the last three are collinear, by the steps between them.
use Rattle.std.proofs.Common.{◌≡◌, false, ℤ, pos, ◌+ℤ◌, ◌-ℤ◌, ◌*ℤ◌, ◌<ℤ◌, ◌≤ℤ◌, refl, sym, ap, ap₂, subst, ◌∙◌, arith}
use Rattle.std.proofs.lemmas.Bool.{both_ways}
use Rattle.overlay_geom.specs.Plane.{Point, cross_at, point_eq}
use Rattle.overlay_geom.proofs.Cross.{crossE}
use Rattle.overlay_geom.proofs.Identities.{Expr, solve, number, ◌⊕◌, ◌⊗◌, ◌⊖◌, ◌≗◌}
use Rattle.overlay_geom.proofs.Orders.{point_eq-of_same}
use Rattle.overlay_geom.proofs.Signs.{linear, by_sign, mul-pos, mul-zero}
use Rattle.overlay_plane.specs.Thinning.{ahead}

-- the product of the steps from u to v and from v to w as it is written
abbrev pub aheadE : (ux uy vx vy wx wy : Expr) → Expr
aheadE ux uy vx vy wx wy = (vx ⊖ ux) ⊗ (wx ⊖ vx) ⊕ (vy ⊖ uy) ⊗ (wy ⊖ vy)

-- the squared distance of two points
abbrev pub square : Point → Point → ℤ
square p q = (q.x -ℤ p.x) *ℤ (q.x -ℤ p.x) +ℤ (q.y -ℤ p.y) *ℤ (q.y -ℤ p.y)

abbrev pub squareE : (px py qx qy : Expr) → Expr
squareE px py qx qy = (qx ⊖ px) ⊗ (qx ⊖ px) ⊕ (qy ⊖ py) ⊗ (qy ⊖ py)

-- a square is not negative, and positive but for 0
square_nonneg : (z : ℤ) → pos 0 ≤ℤ (z *ℤ z)
square_nonneg z = by_sign z
    (λ neg. let p = mul-pos (pos 0 -ℤ z) (pos 0 -ℤ z) (omega linear) (omega linear) in
    let e = solve 1 (λ z. (number (pos 0) ⊖ z) ⊗ (number (pos 0) ⊖ z) ≗ z ⊗ z) tt z in omega linear)
    (λ none. let e = ap₂ (λ a b. a *ℤ b) none none in omega linear)
    (λ p. let q = mul-pos z z p p in omega linear)

-- a number is 0 where its square is
zero_of_square : (z : ℤ) → z *ℤ z ≡ pos 0 → z ≡ pos 0
zero_of_square z none = by_sign z
    (λ neg. let p = mul-pos (pos 0 -ℤ z) (pos 0 -ℤ z) (omega linear) (omega linear) in
    let e = solve 1 (λ z. (number (pos 0) ⊖ z) ⊗ (number (pos 0) ⊖ z) ≗ z ⊗ z) tt z in absurd (omega linear))
    (λ is. is)
    (λ some. let p = mul-pos z z some some in absurd (omega linear))

-- two points have a distance unless their coordinates are equal
square_cases : {P : Type 0} (p q : Point) → (pos 0 <ℤ square p q → P) →
    (q.x -ℤ p.x ≡ pos 0 → q.y -ℤ p.y ≡ pos 0 → P) → P
square_cases p q some none =
    let x = square_nonneg (q.x -ℤ p.x) in
    let y = square_nonneg (q.y -ℤ p.y) in
    by_sign (square p q) (λ neg. absurd (omega linear))
    (λ zero. none (zero_of_square (q.x -ℤ p.x) (omega linear)) (zero_of_square (q.y -ℤ p.y) (omega linear))) some

-- different points have one
pub square_of_different : (p q : Point) → ¬ (p ≡ q) → pos 0 <ℤ square p q
square_of_different p q different = square_cases p q (λ some. some)
    (λ dx dy. absurd (different (same (omega linear) (omega linear))))
  where
    same : p.x ≡ q.x → p.y ≡ q.y → p ≡ q
    same ex ey = ap₂ (λ x y. record { x = x; y = y }) ex ey

pub square_of_other : (p q : Point) → point_eq p q ≡ false → pos 0 <ℤ square p q
square_of_other p q other = square_of_different p q
    (λ same. both_ways (point_eq p q) other (point_eq-of_same p q same))

-- so have points after which the way goes on
pub square_of_ahead : (u p q : Point) → pos 0 <ℤ ahead u p q → pos 0 <ℤ square p q
square_of_ahead u p q goes_on = square_cases p q (λ some. some)
    (λ dx dy.
    let ex = mul-zero (p.x -ℤ u.x) (q.x -ℤ p.x) dx in
    let ey = mul-zero (p.y -ℤ u.y) (q.y -ℤ p.y) dy in
    absurd (omega linear))

module _ (a p q b : Point) where
  -- the turn past the second point, and past the third, by the turns between neighbours
  pub past_third : square p q *ℤ cross_at a p b ≡ (square p q *ℤ cross_at a p q +ℤ ahead p q b *ℤ cross_at a p q)
      +ℤ ahead a p q *ℤ cross_at p q b
  past_third = solve 8 (λ ax ay px py qx qy bx by. squareE px py qx qy ⊗ crossE ax ay px py bx by ≗
      (squareE px py qx qy ⊗ crossE ax ay px py qx qy ⊕ aheadE px py qx qy bx by ⊗ crossE ax ay px py qx qy)
      ⊕ aheadE ax ay px py qx qy ⊗ crossE px py qx qy bx by) tt a.x a.y p.x p.y q.x q.y b.x b.y

  pub past_second : square p q *ℤ cross_at a q b ≡ (square p q *ℤ cross_at p q b +ℤ ahead a p q *ℤ cross_at p q b)
      +ℤ ahead p q b *ℤ cross_at a p q
  past_second = solve 8 (λ ax ay px py qx qy bx by. squareE px py qx qy ⊗ crossE ax ay qx qy bx by ≗
      (squareE px py qx qy ⊗ crossE px py qx qy bx by ⊕ aheadE ax ay px py qx qy ⊗ crossE px py qx qy bx by)
      ⊕ aheadE px py qx qy bx by ⊗ crossE ax ay px py qx qy) tt a.x a.y p.x p.y q.x q.y b.x b.y

  -- the step past the second point goes on as the steps between neighbours do
  pub ahead_past : square p q *ℤ ahead a q b ≡ (ahead a p q *ℤ ahead p q b +ℤ square p q *ℤ ahead p q b)
      -ℤ cross_at a p q *ℤ cross_at p q b
  ahead_past = solve 8 (λ ax ay px py qx qy bx by. squareE px py qx qy ⊗ aheadE ax ay qx qy bx by ≗
      (aheadE ax ay px py qx qy ⊗ aheadE px py qx qy bx by ⊕ squareE px py qx qy ⊗ aheadE px py qx qy bx by)
      ⊖ crossE ax ay px py qx qy ⊗ crossE px py qx qy bx by) tt a.x a.y p.x p.y q.x q.y b.x b.y
