-- Points of the plane in order, by x and then by y, each up to itself. Rounding along an edge keeps the order, and a
-- mixture of two points in order lies between them.
use lib.IntN.{*ℤ_comm}
use Rattle.std.proofs.Common.{◌≡◌, inl, inr, ℤ, pos, ◌+ℤ◌, ◌-ℤ◌, ◌*ℤ◌, ◌<ℤ◌, ◌≤ℤ◌, sym, subst}
use Rattle.std.proofs.lemmas.Int.{by_lt_z}
use Rattle.overlay_geom.specs.Plane.{PlanePoint, Edge, SamePlace, IsOn, side, in_plane}
use Rattle.overlay_geom.specs.Rounding.{nearest_point}
use Rattle.overlay_geom.proofs.AlongEdge.{over, place_of, sideE, on_of_order, order_of_on}
use Rattle.overlay_geom.proofs.Identities.{solve, number, ◌⊕◌, ◌⊗◌, ◌⊖◌, ◌≗◌}
use Rattle.overlay_geom.proofs.PointOrder.{IsBefore, IsUpTo, by_order, before_up_to, up_to_itself}
use Rattle.overlay_geom.proofs.Rounded.{nearest_point-rounding}
use Rattle.overlay_geom.proofs.Signs.{linear, mul-nonneg, mul-zero, zero_of_mul-zero, nonpos_of_mul-nonpos}
use Rattle.overlay_plane.specs.PixelSteps.{Between, mixed}
use Rattle.overlay_plane.specs.Rounds.{IsSmaller}
use Rattle.overlay_plane.proofs.AlongOrder.{IsUpToAlong, along-reflexive, along-antisymmetric}
use Rattle.overlay_plane.proofs.RoundedAlong.{rounded_up_to}
use Rattle.overlay_plane.proofs.SmallerPoints.{fraction_le}

-- p is up to q: smaller, or at one place with it
abbrev pub IsUpToPlace : PlanePoint → PlanePoint → Type 0
IsUpToPlace p q = IsUpTo (over (place_of p) q.d) (over (place_of q) p.d)

-- of two points one is up to the other
pub by_place : {P : Type 0} (p q : PlanePoint) → (IsUpToPlace p q → P) → (IsUpToPlace q p → P) → P
by_place p q f g = by_order (over (place_of p) q.d) (over (place_of q) p.d) f
    (λ before. g (before_up_to (over (place_of q) p.d) (over (place_of p) q.d) before))

-- each point is up to itself
pub place_up_to_itself : (p : PlanePoint) → IsUpToPlace p p
place_up_to_itself p = up_to_itself (over (place_of p) p.d)

-- and a smaller point up to the larger
pub place_of_smaller : (p q : PlanePoint) → IsSmaller p q → IsUpToPlace p q
place_of_smaller p q (inl lt) = record { x = omega linear; y = λ le. absurd (omega linear) }
place_of_smaller p q (inr (level, lt)) = record { x = omega linear; y = λ le. omega linear }

-- points at one place are up to each other
pub place_of_same : (p q : PlanePoint) → SamePlace p q → IsUpToPlace p q
place_of_same p q (same_x, same_y) = record { x = omega linear; y = λ back. omega linear }

-- `up to` is transitive
pub place_up_to_through : (p q r : PlanePoint) → IsUpToPlace p q → IsUpToPlace q r → IsUpToPlace p r
place_up_to_through p q r h k = record {
  x = fraction_le p.x p.d q.x q.d r.x r.d p.positive q.positive r.positive h.x k.x;
  y = λ back. fraction_le p.y p.d q.y q.d r.y r.d p.positive q.positive r.positive
      (h.y (fraction_le q.x q.d r.x r.d p.x p.d q.positive r.positive p.positive k.x back))
      (k.y (fraction_le r.x r.d p.x p.d q.x q.d r.positive p.positive q.positive back h.x));
}

-- ---- along an edge

-- a point at the place of one on a line is on the line
on_line_same_place : (e : Edge) (p q : PlanePoint) → SamePlace p q → side e p ≡ pos 0 → side e q ≡ pos 0
on_line_same_place e p q (same_x, same_y) on_line =
    let of_p = mul-zero q.d (side e p) on_line in
    let of_x = mul-zero (e.b.y -ℤ e.a.y) (q.x *ℤ p.d -ℤ p.x *ℤ q.d) (omega linear) in
    let of_y = mul-zero (e.b.x -ℤ e.a.x) (q.y *ℤ p.d -ℤ p.y *ℤ q.d) (omega linear) in
    let identity = solve 10 (λ ax ay bx by x y d u v c. d ⊗ sideE ax ay bx by u v c ≗ c ⊗ sideE ax ay bx by x y d ⊕
    ((bx ⊖ ax) ⊗ (v ⊗ d ⊖ y ⊗ c) ⊖ (by ⊖ ay) ⊗ (u ⊗ d ⊖ x ⊗ c))) tt e.a.x e.a.y e.b.x e.b.y p.x p.y p.d q.x q.y q.d in
    zero_of_mul-zero p.d (side e q) p.positive (omega linear)

-- a number over 1 is that number
over_one : (z : ℤ) → z *ℤ pos 1 ≡ z
over_one = solve 1 (λ z. z ⊗ number (pos 1) ≗ z) tt

module _ (e : Edge) (before : IsBefore e.a e.b) where
  -- the start is up to each point of the edge
  pub start_up_to_place : (p : PlanePoint) → IsOn e p → IsUpToPlace (in_plane e.a) p
  start_up_to_place p on =
      let from = (order_of_on e p before on).0 in
      let x = over_one p.x in
      let y = over_one p.y in
      record { x = let le = from.x in omega linear; y = λ back. let le = from.y (omega linear) in omega linear }

  -- and that up to the end
  pub place_up_to_end : (p : PlanePoint) → IsOn e p → IsUpToPlace p (in_plane e.b)
  place_up_to_end p on =
      let to = (order_of_on e p before on).1 in
      let x = over_one p.x in
      let y = over_one p.y in
      record { x = let le = to.x in omega linear; y = λ back. let le = to.y (omega linear) in omega linear }

  -- a point of the edge's line that comes between two points of the edge is on it
  pub on_between : (p q c : PlanePoint) → IsOn e p → IsOn e q → side e c ≡ pos 0 → IsUpToPlace p c → IsUpToPlace c q →
      IsOn e c
  on_between p q c on_p on_q on_line from to =
      let low = place_up_to_through (in_plane e.a) p c (start_up_to_place p on_p) from in
      let high = place_up_to_through c q (in_plane e.b) to (place_up_to_end q on_q) in
      let x = over_one c.x in
      let y = over_one c.y in
      on_of_order e c before on_line
      (record { x = let le = low.x in omega linear; y = λ back. let le = low.y (omega linear) in omega linear })
      (record { x = let le = high.x in omega linear; y = λ back. let le = high.y (omega linear) in omega linear })

  -- so is a point at the place of one of its points
  pub on_same_place : (p q : PlanePoint) → SamePlace p q → IsOn e p → IsOn e q
  on_same_place p q (same_x, same_y) on = on_between p p q on on
      (on_line_same_place e p q (same_x, same_y) on.on_line)
      (place_of_same p q (same_x, same_y)) (place_of_same q p (sym same_x, sym same_y))

  -- rounded, points of the edge keep their order along it
  pub nearest_up_to : (p q : PlanePoint) → IsOn e p → IsOn e q → IsUpToPlace p q →
      IsUpToAlong e (nearest_point p) (nearest_point q)
  nearest_up_to p q on_p on_q up =
      by_lt_z (p.x *ℤ q.d) (q.x *ℤ p.d) (λ lt. smaller (inl lt))
      (λ ge. let level = same up.x ge in by_lt_z (p.y *ℤ q.d) (q.y *ℤ p.d) (λ lt. smaller (inr (level, lt)))
      (λ above. subst (λ v. IsUpToAlong e (nearest_point p) v)
      (nearest_point-rounding.one p q (level, same (up.y ge) above)) (along-reflexive e (nearest_point p))))
    where
      -- a number that is at most and at least another equals it
      same : {y z : ℤ} → y ≤ℤ z → z ≤ℤ y → y ≡ z
      same h k = omega linear

      -- a smaller point comes up to the other
      smaller : IsSmaller p q → IsUpToAlong e (nearest_point p) (nearest_point q)
      smaller = rounded_up_to e before p q on_p on_q

  -- a point between two points that round alike rounds as they do
  pub rounded_alike : (p q r : PlanePoint) → IsOn e p → IsOn e q → IsOn e r → IsUpToPlace p q → IsUpToPlace q r →
      nearest_point p ≡ nearest_point r →
      nearest_point p ≡ nearest_point q
  rounded_alike p q r on_p on_q on_r first second alike =
      along-antisymmetric e (nearest_point p) (nearest_point q) (nearest_up_to p q on_p on_q first)
      (subst (λ v. IsUpToAlong e (nearest_point q) v) (sym alike) (nearest_up_to q r on_q on_r second))

-- ---- mixed points

-- distance of a mixture of two numbers above the first
above_first : (m n x d y c : ℤ) →
    (m *ℤ x +ℤ n *ℤ y) *ℤ d -ℤ x *ℤ (m *ℤ d +ℤ n *ℤ c) ≡ n *ℤ (y *ℤ d -ℤ x *ℤ c)
above_first = solve 6 (λ m n x d y c. (m ⊗ x ⊕ n ⊗ y) ⊗ d ⊖ x ⊗ (m ⊗ d ⊕ n ⊗ c) ≗ n ⊗ (y ⊗ d ⊖ x ⊗ c)) tt

-- and below the second
below_second : (m n x d y c : ℤ) →
    y *ℤ (m *ℤ d +ℤ n *ℤ c) -ℤ (m *ℤ x +ℤ n *ℤ y) *ℤ c ≡ m *ℤ (y *ℤ d -ℤ x *ℤ c)
below_second = solve 6 (λ m n x d y c. y ⊗ (m ⊗ d ⊕ n ⊗ c) ⊖ (m ⊗ x ⊕ n ⊗ y) ⊗ c ≗ m ⊗ (y ⊗ d ⊖ x ⊗ c)) tt

-- a number that is not negative where its weight is positive is not negative when weighed
weighed : (k z : ℤ) → pos 0 ≤ℤ k → (pos 0 <ℤ k → pos 0 ≤ℤ z) → pos 0 ≤ℤ (k *ℤ z)
weighed k z nonneg h = by_lt_z (pos 0) k (λ some. mul-nonneg k z nonneg (h some))
    (λ none. let zero = mul-zero z k (omega linear) in let turned = *ℤ_comm z k in omega linear)

module _ (p q : PlanePoint) (up : IsUpToPlace p q) (b : Between p q) where
  -- the first of two points in order is up to their mixture
  pub first_up_to_mixed : IsUpToPlace p (mixed b)
  first_up_to_mixed = record {
    x = at_least p.x q.x (λ some. up.x);
    y = λ back. at_least p.y q.y (λ some. up.y (level back some));
  }
    where
      -- where the second has weight, a number no less makes the mixture no less
      at_least : (x y : ℤ) → (pos 0 <ℤ b.n → (x *ℤ q.d) ≤ℤ (y *ℤ p.d)) →
          (x *ℤ (b.m *ℤ p.d +ℤ b.n *ℤ q.d)) ≤ℤ ((b.m *ℤ x +ℤ b.n *ℤ y) *ℤ p.d)
      at_least x y h =
          let more = weighed b.n (y *ℤ p.d -ℤ x *ℤ q.d) b.n_nonneg (λ some. let le = h some in omega linear) in
          let identity = above_first b.m b.n x p.d y q.d in
          omega linear

      -- and a mixture no more a number no more
      level : ((b.m *ℤ p.x +ℤ b.n *ℤ q.x) *ℤ p.d) ≤ℤ (p.x *ℤ (b.m *ℤ p.d +ℤ b.n *ℤ q.d)) → pos 0 <ℤ b.n →
          (q.x *ℤ p.d) ≤ℤ (p.x *ℤ q.d)
      level back some =
          let identity = above_first b.m b.n p.x p.d q.x q.d in
          let none = nonpos_of_mul-nonpos b.n (q.x *ℤ p.d -ℤ p.x *ℤ q.d) some (omega linear) in
          omega linear

  -- and that up to the second
  pub mixed_up_to_second : IsUpToPlace (mixed b) q
  mixed_up_to_second = record {
    x = at_most p.x q.x (λ some. up.x);
    y = λ back. at_most p.y q.y (λ some. up.y (level back some));
  }
    where
      -- where the first has weight, a number no more makes the mixture no more
      at_most : (x y : ℤ) → (pos 0 <ℤ b.m → (x *ℤ q.d) ≤ℤ (y *ℤ p.d)) →
          ((b.m *ℤ x +ℤ b.n *ℤ y) *ℤ q.d) ≤ℤ (y *ℤ (b.m *ℤ p.d +ℤ b.n *ℤ q.d))
      at_most x y h =
          let more = weighed b.m (y *ℤ p.d -ℤ x *ℤ q.d) b.m_nonneg (λ some. let le = h some in omega linear) in
          let identity = below_second b.m b.n x p.d y q.d in
          omega linear

      -- and a mixture no less a number no less
      level : (q.x *ℤ (b.m *ℤ p.d +ℤ b.n *ℤ q.d)) ≤ℤ ((b.m *ℤ p.x +ℤ b.n *ℤ q.x) *ℤ q.d) → pos 0 <ℤ b.m →
          (q.x *ℤ p.d) ≤ℤ (p.x *ℤ q.d)
      level back some =
          let identity = below_second b.m b.n p.x p.d q.x q.d in
          let none = nonpos_of_mul-nonpos b.m (q.x *ℤ p.d -ℤ p.x *ℤ q.d) some (omega linear) in
          omega linear
