-- Points of the plane mixed by weights round to the whole point that their rounded points, mixed by weights alike,
-- make.
use Rattle.std.proofs.Common.{◌≡◌, ℤ, pos, ◌+ℤ◌, ◌-ℤ◌, ◌*ℤ◌, ◌<ℤ◌, ◌≤ℤ◌, ap}
use Rattle.std.proofs.lemmas.Int.{by_lt_z}
use Rattle.overlay_geom.specs.Plane.{Point, PlanePoint, SamePlace, in_plane}
use Rattle.overlay_geom.specs.Rounding.{nearest, nearest_point}
use Rattle.overlay_geom.proofs.Identities.{solve, number, ◌⊕◌, ◌⊗◌, ◌⊖◌, ◌≗◌}
use Rattle.overlay_geom.proofs.Orders.{same_point}
use Rattle.overlay_geom.proofs.Rounded.{nearest-strict, nearest-within, nearest-unique}
use Rattle.overlay_geom.proofs.Signs.{linear, mul-pos, mul-nonneg, mul-le}
use Rattle.overlay_plane.specs.PixelSteps.{Between, mixed, PassesPixel}

-- two weights, not both 0, and the denominators of the fractions that are mixed by them
record Mix : Type 0 where
  m : ℤ
  n : ℤ
  d : ℤ
  c : ℤ
  m_nonneg : pos 0 ≤ℤ m
  n_nonneg : pos 0 ≤ℤ n
  some : pos 0 <ℤ (m +ℤ n)
  d_positive : pos 0 <ℤ d
  c_positive : pos 0 <ℤ c

-- the denominator of the mixture is positive
mixed_positive : (w : Mix) → pos 0 <ℤ (w.m *ℤ w.c *ℤ w.d +ℤ w.n *ℤ w.d *ℤ w.c)
mixed_positive w =
    let all = mul-pos (w.m +ℤ w.n) (w.c *ℤ w.d) w.some (mul-pos w.c w.d w.c_positive w.d_positive) in
    let identity = solve 4 (λ m n d c. (m ⊕ n) ⊗ (c ⊗ d) ≗ m ⊗ c ⊗ d ⊕ n ⊗ d ⊗ c) tt w.m w.n w.d w.c in
    omega linear

-- where the mixture of the numbers nearest two fractions is whole, the fractions so mixed round to it
mixture_rounds : (w : Mix) (x y v : ℤ) → w.m *ℤ nearest x w.d +ℤ w.n *ℤ nearest y w.c ≡ (w.m +ℤ w.n) *ℤ v →
    nearest (w.m *ℤ w.c *ℤ x +ℤ w.n *ℤ w.d *ℤ y) (w.m *ℤ w.c *ℤ w.d +ℤ w.n *ℤ w.d *ℤ w.c) ≡ v
mixture_rounds w x y v is = nearest-unique (w.m *ℤ w.c *ℤ x +ℤ w.n *ℤ w.d *ℤ y)
    (w.m *ℤ w.c *ℤ w.d +ℤ w.n *ℤ w.d *ℤ w.c) v (mixed_positive w) below above
  where
    -- the weights over the common denominator are not negative
    first : pos 0 ≤ℤ (w.m *ℤ w.c)
    first = let c_positive = w.c_positive in mul-nonneg w.m w.c w.m_nonneg (omega linear)

    second : pos 0 ≤ℤ (w.n *ℤ w.d)
    second = let d_positive = w.d_positive in mul-nonneg w.n w.d w.n_nonneg (omega linear)

    -- and not both 0
    either : pos 0 <ℤ (w.m *ℤ w.c +ℤ w.n *ℤ w.d)
    either =
        let some = w.some in
        by_lt_z (pos 0) w.m
        (λ more. let here = mul-pos w.m w.c more w.c_positive in let there = second in omega linear)
        (λ none. let there = mul-pos w.n w.d (omega linear) w.d_positive in let here = first in omega linear)

    -- twice the whole number, times the denominator, is mixed of twice the nearest numbers times theirs
    rounded : pos 2 *ℤ v *ℤ (w.m *ℤ w.c *ℤ w.d +ℤ w.n *ℤ w.d *ℤ w.c) ≡ w.m *ℤ w.c *ℤ (pos 2 *ℤ nearest x w.d *ℤ w.d)
        +ℤ w.n *ℤ w.d *ℤ (pos 2 *ℤ nearest y w.c *ℤ w.c)
    rounded =
        let same = ap (λ z. pos 2 *ℤ w.c *ℤ w.d *ℤ z) is in
        let left = solve 5 (λ m n d c v. number (pos 2) ⊗ v ⊗ (m ⊗ c ⊗ d ⊕ n ⊗ d ⊗ c) ≗ number (pos 2) ⊗ c ⊗ d ⊗
        ((m ⊕ n) ⊗ v)) tt w.m w.n w.d w.c v in
        let right = solve 6 (λ m n d c u v. number (pos 2) ⊗ c ⊗ d ⊗ (m ⊗ u ⊕ n ⊗ v) ≗ m ⊗ c ⊗
        (number (pos 2) ⊗ u ⊗ d) ⊕ n ⊗ d ⊗ (number (pos 2) ⊗ v ⊗ c)) tt w.m w.n w.d w.c (nearest x w.d)
        (nearest y w.c) in
        omega linear

    -- the number is less than 1/2 below the mixture
    below : (pos 2 *ℤ (w.m *ℤ w.c *ℤ x +ℤ w.n *ℤ w.d *ℤ y) -ℤ (w.m *ℤ w.c *ℤ w.d +ℤ w.n *ℤ w.d *ℤ w.c)) <ℤ
        (pos 2 *ℤ v *ℤ (w.m *ℤ w.c *ℤ w.d +ℤ w.n *ℤ w.d *ℤ w.c))
    below =
        let strict_x = nearest-strict x w.d w.d_positive in
        let strict_y = nearest-strict y w.c w.c_positive in
        let low_x = mul-le (w.m *ℤ w.c) (pos 2 *ℤ x -ℤ w.d +ℤ pos 1) (pos 2 *ℤ nearest x w.d *ℤ w.d) first
        (omega linear) in
        let low_y = mul-le (w.n *ℤ w.d) (pos 2 *ℤ y -ℤ w.c +ℤ pos 1) (pos 2 *ℤ nearest y w.c *ℤ w.c) second
        (omega linear) in
        let is_rounded = rounded in
        let more = either in
        let spread = solve 6 (λ m n d c x y. m ⊗ c ⊗ (number (pos 2) ⊗ x ⊖ d ⊕ number (pos 1)) ⊕ n ⊗ d ⊗
        (number (pos 2) ⊗ y ⊖ c ⊕ number (pos 1)) ≗ number (pos 2) ⊗ (m ⊗ c ⊗ x ⊕ n ⊗ d ⊗ y) ⊖
        (m ⊗ c ⊗ d ⊕ n ⊗ d ⊗ c) ⊕ (m ⊗ c ⊕ n ⊗ d)) tt w.m w.n w.d w.c x y in
        omega linear

    -- the number is at most 1/2 above the mixture
    above : (pos 2 *ℤ v *ℤ (w.m *ℤ w.c *ℤ w.d +ℤ w.n *ℤ w.d *ℤ w.c)) ≤ℤ
        (pos 2 *ℤ (w.m *ℤ w.c *ℤ x +ℤ w.n *ℤ w.d *ℤ y) +ℤ (w.m *ℤ w.c *ℤ w.d +ℤ w.n *ℤ w.d *ℤ w.c))
    above =
        let high_x = mul-le (w.m *ℤ w.c) (pos 2 *ℤ nearest x w.d *ℤ w.d) (pos 2 *ℤ x +ℤ w.d) first
        (nearest-within x w.d w.d_positive).1 in
        let high_y = mul-le (w.n *ℤ w.d) (pos 2 *ℤ nearest y w.c *ℤ w.c) (pos 2 *ℤ y +ℤ w.c) second
        (nearest-within y w.c w.c_positive).1 in
        let is_rounded = rounded in
        let spread = solve 6 (λ m n d c x y. m ⊗ c ⊗ (number (pos 2) ⊗ x ⊕ d) ⊕ n ⊗ d ⊗ (number (pos 2) ⊗ y ⊕ c) ≗
        number (pos 2) ⊗ (m ⊗ c ⊗ x ⊕ n ⊗ d ⊗ y) ⊕ (m ⊗ c ⊗ d ⊕ n ⊗ d ⊗ c)) tt w.m w.n w.d w.c x y in
        omega linear

-- the piece from p to q passes the pixel of each whole point on the step between the points nearest p and q
pub pixel_on_step_passed : (p q : PlanePoint) (v : Point)
    (b : Between (in_plane (nearest_point p)) (in_plane (nearest_point q))) → SamePlace (mixed b) (in_plane v) →
    PassesPixel p q v
pixel_on_step_passed p q v b (same_x, same_y) = (
  record {
    m = b.m *ℤ q.d;
    n = b.n *ℤ p.d;
    m_nonneg = let positive = q.positive in mul-nonneg b.m q.d b.m_nonneg (omega linear);
    n_nonneg = let positive = p.positive in mul-nonneg b.n p.d b.n_nonneg (omega linear);
    some = mixed_positive weights;
  },
  same_point _ v (mixture_rounds weights p.x q.x v.x
      (over_one (nearest p.x p.d) (nearest q.x q.d) v.x same_x)) (mixture_rounds weights p.y q.y v.y
      (over_one (nearest p.y p.d) (nearest q.y q.d) v.y same_y)),
)
  where
    -- the weights of b, and the denominators of p and q
    weights : Mix
    weights = record {
      m = b.m;
      n = b.n;
      d = p.d;
      c = q.d;
      m_nonneg = b.m_nonneg;
      n_nonneg = b.n_nonneg;
      some =
          let some = b.some in
          let identity = solve 2 (λ m n. m ⊗ number (pos 1) ⊕ n ⊗ number (pos 1) ≗ m ⊕ n) tt b.m b.n in
          omega linear;
      d_positive = p.positive;
      c_positive = q.positive;
    }

    -- whole points have the denominator 1
    over_one : (x y v : ℤ) → (b.m *ℤ x +ℤ b.n *ℤ y) *ℤ pos 1 ≡ v *ℤ (b.m *ℤ pos 1 +ℤ b.n *ℤ pos 1) →
        b.m *ℤ x +ℤ b.n *ℤ y ≡ (b.m +ℤ b.n) *ℤ v
    over_one x y v same =
        let left = solve 4 (λ m n x y. (m ⊗ x ⊕ n ⊗ y) ⊗ number (pos 1) ≗ m ⊗ x ⊕ n ⊗ y) tt b.m b.n x y in
        let right = solve 3 (λ m n v. v ⊗ (m ⊗ number (pos 1) ⊕ n ⊗ number (pos 1)) ≗ (m ⊕ n) ⊗ v) tt b.m b.n v in
        omega linear
