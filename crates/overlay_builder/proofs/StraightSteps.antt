-- A point of the step between two points lies on one of the two steps by way of a third point on their line.
use Rattle.std.proofs.Common.{◌≡◌, ◌⊎◌, inl, inr, false, ℤ, pos, ◌-ℤ◌, ◌*ℤ◌}
use Rattle.std.proofs.lemmas.Bool.{both_ways}
use Rattle.overlay_geom.specs.Plane.{Point, PlanePoint, Edge, IsOn, side, cross_at, point_eq}
use Rattle.overlay_geom.specs.Thinned.{IsOnOneLine}
use Rattle.overlay_geom.proofs.AlongEdge.{over, place_of, sideE, on_of_order, order_of_on}
use Rattle.overlay_geom.proofs.Cross.{crossE}
use Rattle.overlay_geom.proofs.Identities.{solve, number, ◌⊕◌, ◌⊗◌, ◌⊖◌, ⊝◌, ◌≗◌}
use Rattle.overlay_geom.proofs.Orders.{same_point, point_eq-of_same}
use Rattle.overlay_geom.proofs.PointOrder.{IsBefore, IsUpTo, by_order, before_up_to, up_to_through}
use Rattle.overlay_geom.proofs.Signs.{linear, by_sign, mul-zero, zero_of_mul-zero}
use Rattle.overlay_plane.proofs.NearChains.{long_back}
use Rattle.overlay_plane.proofs.SnapsNear.{on_turned}
use Rattle.overlay_plane.proofs.WholeOnEdges.{up_to_of_over}

-- ---- numbers

-- a product with a number other than 0 is 0 only where the other number is
cancel : (k z : ℤ) → ¬ (k ≡ pos 0) → k *ℤ z ≡ pos 0 → z ≡ pos 0
cancel k z some none = by_sign k
    (λ negative. zero_of_mul-zero (pos 0 -ℤ k) z (omega linear)
    (let turned = solve 2 (λ k z. (number (pos 0) ⊖ k) ⊗ z ≗ ⊝ (k ⊗ z)) tt k z in omega linear))
    (λ zero. absurd (some zero))
    (λ positive. zero_of_mul-zero k z positive none)

-- two vectors along a third one, which is not zero, are along each other
parallel : (ax ay bx by cx cy : ℤ) → ¬ ((ax ≡ pos 0) × (ay ≡ pos 0)) → ax *ℤ by -ℤ ay *ℤ bx ≡ pos 0 →
    ax *ℤ cy -ℤ ay *ℤ cx ≡ pos 0 → bx *ℤ cy -ℤ by *ℤ cx ≡ pos 0
parallel ax ay bx by cx cy some first second = by_sign ax (λ lt. by_x (λ zero. absurd (omega linear)))
    (λ zero. by_y (λ level. some (zero, level))) (λ gt. by_x (λ zero. absurd (omega linear)))
  where
    by_x : ¬ (ax ≡ pos 0) → bx *ℤ cy -ℤ by *ℤ cx ≡ pos 0
    by_x wide =
        let identity = solve 6
        (λ ax ay bx by cx cy. ax ⊗ (bx ⊗ cy ⊖ by ⊗ cx) ≗ bx ⊗ (ax ⊗ cy ⊖ ay ⊗ cx) ⊖ cx ⊗ (ax ⊗ by ⊖ ay ⊗ bx)) tt ax ay
        bx by cx cy in
        let of_c = mul-zero bx (ax *ℤ cy -ℤ ay *ℤ cx) second in
        let of_b = mul-zero cx (ax *ℤ by -ℤ ay *ℤ bx) first in
        cancel ax (bx *ℤ cy -ℤ by *ℤ cx) wide (omega linear)

    by_y : ¬ (ay ≡ pos 0) → bx *ℤ cy -ℤ by *ℤ cx ≡ pos 0
    by_y high =
        let identity = solve 6
        (λ ax ay bx by cx cy. ay ⊗ (bx ⊗ cy ⊖ by ⊗ cx) ≗ by ⊗ (ax ⊗ cy ⊖ ay ⊗ cx) ⊖ cy ⊗ (ax ⊗ by ⊖ ay ⊗ bx)) tt ax ay
        bx by cx cy in
        let of_c = mul-zero by (ax *ℤ cy -ℤ ay *ℤ cx) second in
        let of_b = mul-zero cy (ax *ℤ by -ℤ ay *ℤ bx) first in
        cancel ay (bx *ℤ cy -ℤ by *ℤ cx) high (omega linear)

-- ---- points in order

-- of two different points one up to the other is smaller
before_of_up_to : (p q : Point) → point_eq p q ≡ false → IsUpTo p q → IsBefore p q
before_of_up_to p q apart up = by_order q p (λ back. absurd (both_ways (point_eq p q) apart
    (point_eq-of_same p q (same_point p q (let x = up.x in let y = back.x in omega linear)
    (let x = up.x in let y = back.x in let low = up.y (omega linear) in let high = back.y (omega linear) in
    omega linear))))) (λ before. before)

-- q comes between a and b, in this order
record ComesBetween (a b : Point) (q : PlanePoint) : Type 0 where
  from : IsUpTo (over a q.d) (place_of q)
  to : IsUpTo (place_of q) (over b q.d)

-- so a comes up to b
ends_in_order : (a b : Point) (q : PlanePoint) → ComesBetween a b q → IsUpTo a b
ends_in_order a b q h = up_to_of_over a b q.d q.positive
    (up_to_through (over a q.d) (place_of q) (over b q.d) h.from h.to)

-- a point of the line of two different points that comes between them is on the step
on_between : (a b : Point) (q : PlanePoint) → point_eq a b ≡ false → side (record { a = a; b = b }) q ≡ pos 0 →
    ComesBetween a b q ⊎ ComesBetween b a q → IsOn (record { a = a; b = b }) q
on_between a b q apart on_line (inl h) = on_of_order (record { a = a; b = b }) q
    (before_of_up_to a b apart (ends_in_order a b q h)) on_line h.from h.to
on_between a b q apart on_line (inr h) = on_turned (record { a = b; b = a }) q
    (on_of_order (record { a = b; b = a }) q
    (before_of_up_to b a (long_back (record { from = a; to = b }) apart) (ends_in_order b a q h))
    (let turned = solve 7 (λ ax ay bx by x y d. sideE bx by ax ay x y d ≗ ⊝ sideE ax ay bx by x y d) tt a.x a.y b.x b.y
    q.x q.y q.d in omega linear) h.from h.to)

-- a point of the step comes between its ends, in some order
comes_between : (a b : Point) (q : PlanePoint) → point_eq a b ≡ false → IsOn (record { a = a; b = b }) q →
    ComesBetween a b q ⊎ ComesBetween b a q
comes_between a b q apart on = by_order a b
    (λ up. let order = order_of_on (record { a = a; b = b }) q (before_of_up_to a b apart up) on in
    inl (record { from = order.0; to = order.1 }))
    (λ back. let order = order_of_on (record { a = b; b = a }) q back (on_turned (record { a = a; b = b }) q on) in
    inr (record { from = order.0; to = order.1 }))

-- ---- three points on a line

module _ (u v w : Point) (straight : IsOnOneLine u v w) (q : PlanePoint) (long : point_eq u w ≡ false)
    (on : IsOn (record { a = u; b = w }) q) where
  -- q is on the line of the first two
  on_first_line : side (record { a = u; b = v }) q ≡ pos 0
  on_first_line =
      let turned = solve 4 (λ a b c d. c ⊗ b ⊖ d ⊗ a ≗ ⊝ (a ⊗ d ⊖ b ⊗ c)) tt (v.x -ℤ u.x) (v.y -ℤ u.y) (w.x -ℤ u.x)
      (w.y -ℤ u.y) in
      let line = straight in
      parallel (w.x -ℤ u.x) (w.y -ℤ u.y) (v.x -ℤ u.x) (v.y -ℤ u.y) (q.x -ℤ u.x *ℤ q.d) (q.y -ℤ u.y *ℤ q.d)
      (λ none. let level = none.0 in let even = none.1 in both_ways (point_eq u w) long
      (point_eq-of_same u w (same_point u w (omega linear) (omega linear)))) (omega linear) on.on_line

  -- and on that of the last two
  on_last_line : side (record { a = v; b = w }) q ≡ pos 0
  on_last_line =
      let identity = solve 9
      (λ ux uy vx vy wx wy x y d. sideE vx vy wx wy x y d ≗ d ⊗ crossE ux uy vx vy wx wy ⊖ sideE ux uy vx vy x y d ⊕
      sideE ux uy wx wy x y d) tt u.x u.y v.x v.y w.x w.y q.x q.y q.d in
      let none = mul-zero q.d (cross_at u v w) straight in
      let first = on_first_line in
      let whole = on.on_line in
      omega linear

  -- so it is on one of their steps
  pub on_either_step : point_eq u v ≡ false → point_eq v w ≡ false →
      IsOn (record { a = u; b = v }) q ⊎ IsOn (record { a = v; b = w }) q
  on_either_step first last = by (comes_between u w q long on)
    where
      to_first : ComesBetween u v q ⊎ ComesBetween v u q →
          IsOn (record { a = u; b = v }) q ⊎ IsOn (record { a = v; b = w }) q
      to_first h = inl (on_between u v q first on_first_line h)

      to_last : ComesBetween v w q ⊎ ComesBetween w v q →
          IsOn (record { a = u; b = v }) q ⊎ IsOn (record { a = v; b = w }) q
      to_last h = inr (on_between v w q last on_last_line h)

      by : ComesBetween u w q ⊎ ComesBetween w u q →
          IsOn (record { a = u; b = v }) q ⊎ IsOn (record { a = v; b = w }) q
      by (inl h) = by_order (over v q.d) (place_of q) (λ up. to_last (inl (record { from = up; to = h.to })))
          (λ back. to_first (inl (record { from = h.from; to = before_up_to (place_of q) (over v q.d) back })))
      by (inr h) = by_order (over v q.d) (place_of q) (λ up. to_first (inr (record { from = up; to = h.to })))
          (λ back. to_last (inr (record { from = h.from; to = before_up_to (place_of q) (over v q.d) back })))
