-- A step between whole points at most 1/2 away from two points of an edge leads across the vertical line through a
-- point
-- of the plane: a point of the edge in the column of the unit square round it tells on which side of it the step
-- passes.
use Rattle.std.proofs.Common.{◌≡◌, ◌⊎◌, inl, inr, ℤ, pos, ◌+ℤ◌, ◌-ℤ◌, ◌*ℤ◌, ◌<ℤ◌, ◌≤ℤ◌, int_lt, sym, ◌∙◌}
use Rattle.overlay_geom.specs.Plane.{Point, PlanePoint, Edge, IsOn, side}
use Rattle.overlay_geom.specs.Rounding.{nearest_point}
use Rattle.overlay_geom.proofs.AlongEdge.{sideE}
use Rattle.overlay_geom.proofs.Identities.{solve, number, ◌⊕◌, ◌⊗◌, ◌⊖◌, ◌≗◌}
use Rattle.overlay_geom.proofs.Rounded.{nearest-strict}
use Rattle.overlay_geom.proofs.Signs.{linear, mul-pos, mul-nonneg, mul-lt, mul-le, mul-zero, pos_of_mul-pos}
use Rattle.overlay_geom.proofs.Signs.{neg_of_mul-neg}
use Rattle.overlay_plane.proofs.Mixtures.{mixture, mixture_on}
use Rattle.overlay_plane.proofs.SquareSides.{IsInColumn, IsBelowSquare, IsAboveSquare, IsInClosedColumn}
use Rattle.overlay_plane.proofs.SquareSides.{IsHighAboveSquare}
use Rattle.overlay_plane.proofs.Tests.{test_from_lt, test_from_ge}
use Rattle.overlay_plane.proofs.WithinHalf.{IsHalfFrom, half_from_nearest, halves_mixed, less_than_half_mixed}

-- ---- numbers x / d, c / n and z / n, where the second is at most 1/2 above the third, or less than 1/2 below it

-- where the first is the second, it is at most 1/2 above the third
at_left : (x d n c z : ℤ) → pos 0 <ℤ d → x *ℤ n ≡ c *ℤ d → (pos 2 *ℤ c) ≤ℤ (pos 2 *ℤ z +ℤ n) →
    (pos 2 *ℤ (x *ℤ n -ℤ z *ℤ d)) ≤ℤ (d *ℤ n)
at_left x d n c z positive same le =
    let over = mul-le d (pos 2 *ℤ c -ℤ pos 2 *ℤ z) n (omega linear) (omega linear) in
    let identity = solve 5
    (λ x d n c z. number (pos 2) ⊗ (x ⊗ n ⊖ z ⊗ d) ≗ d ⊗ (number (pos 2) ⊗ c ⊖ number (pos 2) ⊗ z) ⊕
    number (pos 2) ⊗ (x ⊗ n ⊖ c ⊗ d)) tt x d n c z in
    let none = mul-zero (pos 2) (x *ℤ n -ℤ c *ℤ d) (omega linear) in
    omega linear

-- or less than 1/2 below it
at_right : (x d n c z : ℤ) → pos 0 <ℤ d → x *ℤ n ≡ c *ℤ d → (pos 2 *ℤ z -ℤ n) <ℤ (pos 2 *ℤ c) →
    (pos 2 *ℤ (z *ℤ d -ℤ x *ℤ n)) <ℤ (d *ℤ n)
at_right x d n c z positive same lt =
    let over = mul-lt d (pos 2 *ℤ z -ℤ pos 2 *ℤ c) n positive (omega linear) in
    let identity = solve 5
    (λ x d n c z. number (pos 2) ⊗ (z ⊗ d ⊖ x ⊗ n) ≗ d ⊗ (number (pos 2) ⊗ z ⊖ number (pos 2) ⊗ c) ⊖
    number (pos 2) ⊗ (x ⊗ n ⊖ c ⊗ d)) tt x d n c z in
    let none = mul-zero (pos 2) (x *ℤ n -ℤ c *ℤ d) (omega linear) in
    omega linear

-- where the third is more than 1/2 below the first, the second is below it
by_below : (y d n c z : ℤ) → pos 0 <ℤ d → (pos 2 *ℤ c) ≤ℤ (pos 2 *ℤ z +ℤ n) →
    (d *ℤ n) <ℤ (pos 2 *ℤ (y *ℤ n -ℤ z *ℤ d)) → pos 0 <ℤ (y *ℤ n -ℤ c *ℤ d)
by_below y d n c z positive le low =
    let over = mul-le d (pos 2 *ℤ c) (pos 2 *ℤ z +ℤ n) (omega linear) le in
    let identity = solve 5
    (λ y d n c z. number (pos 2) ⊗ (y ⊗ n ⊖ c ⊗ d) ≗ number (pos 2) ⊗ (y ⊗ n ⊖ z ⊗ d) ⊕
    d ⊗ (number (pos 2) ⊗ z ⊕ n) ⊖ d ⊗ (number (pos 2) ⊗ c) ⊖ d ⊗ n) tt y d n c z in
    pos_of_mul-pos (pos 2) (y *ℤ n -ℤ c *ℤ d) (record { lt = tt }) (omega linear)

-- and where it is at least 1/2 above the first, the second is above it
by_above : (y d n c z : ℤ) → pos 0 <ℤ d → (pos 2 *ℤ z -ℤ n) <ℤ (pos 2 *ℤ c) →
    (d *ℤ n) ≤ℤ (pos 2 *ℤ (z *ℤ d -ℤ y *ℤ n)) → (y *ℤ n -ℤ c *ℤ d) <ℤ pos 0
by_above y d n c z positive lt high =
    let over = mul-lt d (pos 2 *ℤ z -ℤ n) (pos 2 *ℤ c) positive lt in
    let identity = solve 5
    (λ y d n c z. number (pos 2) ⊗ (y ⊗ n ⊖ c ⊗ d) ≗ d ⊗ (number (pos 2) ⊗ z ⊖ n) ⊖ d ⊗ (number (pos 2) ⊗ c) ⊕ d ⊗ n ⊖
    number (pos 2) ⊗ (z ⊗ d ⊖ y ⊗ n)) tt y d n c z in
    neg_of_mul-neg (pos 2) (y *ℤ n -ℤ c *ℤ d) (record { lt = tt }) (omega linear)

-- each so where the second may be 1/2 below the third
at_closed_right : (x d n c z : ℤ) → pos 0 <ℤ d → x *ℤ n ≡ c *ℤ d → (pos 2 *ℤ z -ℤ n) ≤ℤ (pos 2 *ℤ c) →
    (pos 2 *ℤ (z *ℤ d -ℤ x *ℤ n)) ≤ℤ (d *ℤ n)
at_closed_right x d n c z positive same le =
    let over = mul-le d (pos 2 *ℤ z -ℤ pos 2 *ℤ c) n (omega linear) (omega linear) in
    let identity = solve 5
    (λ x d n c z. number (pos 2) ⊗ (z ⊗ d ⊖ x ⊗ n) ≗ d ⊗ (number (pos 2) ⊗ z ⊖ number (pos 2) ⊗ c) ⊖
    number (pos 2) ⊗ (x ⊗ n ⊖ c ⊗ d)) tt x d n c z in
    let none = mul-zero (pos 2) (x *ℤ n -ℤ c *ℤ d) (omega linear) in
    omega linear

by_high_above : (y d n c z : ℤ) → pos 0 <ℤ d → (pos 2 *ℤ z -ℤ n) ≤ℤ (pos 2 *ℤ c) →
    (d *ℤ n) <ℤ (pos 2 *ℤ (z *ℤ d -ℤ y *ℤ n)) → (y *ℤ n -ℤ c *ℤ d) <ℤ pos 0
by_high_above y d n c z positive le high =
    let over = mul-le d (pos 2 *ℤ z -ℤ n) (pos 2 *ℤ c) (omega linear) le in
    let identity = solve 5
    (λ y d n c z. number (pos 2) ⊗ (y ⊗ n ⊖ c ⊗ d) ≗ d ⊗ (number (pos 2) ⊗ z ⊖ n) ⊖ d ⊗ (number (pos 2) ⊗ c) ⊕ d ⊗ n ⊖
    number (pos 2) ⊗ (z ⊗ d ⊖ y ⊗ n)) tt y d n c z in
    neg_of_mul-neg (pos 2) (y *ℤ n -ℤ c *ℤ d) (record { lt = tt }) (omega linear)

-- ---- one step across the point

module _ (Column Below Above : PlanePoint → Type 0) where
  -- e has a point in the column of the square round p: where it is below the square, f passes below p, and where above,
  -- above
  pub record CrossesAt (e : Edge) (p : PlanePoint) (f : Edge) : Type 0 where
    pub at : PlanePoint
    pub on : IsOn e at
    pub column : Column at
    pub below : Below at → pos 0 <ℤ side f p
    pub above : Above at → side f p <ℤ pos 0

  module _ (e : Edge) (p : PlanePoint) (below_or_above : (q : PlanePoint) → IsOn e q → Column q → Below q ⊎ Above q)
      (not_on_both_sides : (q r : PlanePoint) → IsOn e q → IsOn e r → Column q → Column r → Below q → Above r → ⊥)
    where
      -- edges that cross p's vertical line as points of e tell pass p on one side
      pub on_one_side : (f g : Edge) → CrossesAt e p f → CrossesAt e p g →
          int_lt (pos 0) (side f p) ≡ int_lt (pos 0) (side g p)
      on_one_side f g by_f by_g = by (below_or_above by_f.at by_f.on by_f.column)
          (below_or_above by_g.at by_g.on by_g.column)
        where
          by : Below by_f.at ⊎ Above by_f.at → Below by_g.at ⊎ Above by_g.at →
              int_lt (pos 0) (side f p) ≡ int_lt (pos 0) (side g p)
          by (inl f_below) (inl g_below) = test_from_lt (pos 0) (side f p) (by_f.below f_below)
              ∙ sym (test_from_lt (pos 0) (side g p) (by_g.below g_below))
          by (inl f_below) (inr g_above) = absurd (not_on_both_sides by_f.at by_g.at by_f.on by_g.on by_f.column
              by_g.column f_below g_above)
          by (inr f_above) (inl g_below) = absurd (not_on_both_sides by_g.at by_f.at by_g.on by_f.on by_g.column
              by_f.column g_below f_above)
          by (inr f_above) (inr g_above) =
              test_from_ge (pos 0) (side f p) (let lt = by_f.above f_above in omega linear)
              ∙ sym (test_from_ge (pos 0) (side g p) (let lt = by_g.above g_above in omega linear))

-- a point in the column of the half-open square tells
abbrev pub CrossesSquare : Edge → PlanePoint → Edge → Type 0
CrossesSquare e p f = CrossesAt (IsInColumn p) (IsBelowSquare p) (IsAboveSquare p) e p f

-- a point in the column of the closed square tells
abbrev pub CrossesClosedSquare : Edge → PlanePoint → Edge → Type 0
CrossesClosedSquare e p f = CrossesAt (IsInClosedColumn p) (IsBelowSquare p) (IsHighAboveSquare p) e p f

-- a step from u, which is at most 1/2 away from q, to v, which is so from r, leads across p's vertical line
module _ (e : Edge) (p q r : PlanePoint) (on_q : IsOn e q) (on_r : IsOn e r) (u v : Point) (near_u : IsHalfFrom q u)
    (near_v : IsHalfFrom r v) (from : (u.x *ℤ p.d) ≤ℤ p.x) (to : p.x <ℤ (v.x *ℤ p.d)) where
  -- the weight of q in a point of e between q and r: p's vertical line divides the step in these parts
  abbrev s : ℤ
  s = (v.x *ℤ p.d -ℤ p.x) *ℤ r.d

  -- and that of r
  abbrev t : ℤ
  t = (p.x -ℤ u.x *ℤ p.d) *ℤ q.d

  -- the denominator of that point
  abbrev size : ℤ
  size = s *ℤ q.d +ℤ t *ℤ r.d

  -- the first is positive, and the second not negative
  s_positive : pos 0 <ℤ s
  s_positive = mul-pos (v.x *ℤ p.d -ℤ p.x) r.d (omega linear) r.positive

  s_nonneg : pos 0 ≤ℤ s
  s_nonneg = let positive = s_positive in omega linear

  t_nonneg : pos 0 ≤ℤ t
  t_nonneg = mul-nonneg (p.x -ℤ u.x *ℤ p.d) q.d (omega linear) (let positive = q.positive in omega linear)

  -- the denominator is positive
  some : pos 0 <ℤ size
  some =
      let first = mul-pos s q.d s_positive q.positive in
      let second = mul-nonneg t r.d t_nonneg (let positive = r.positive in omega linear) in
      omega linear

  -- that point
  abbrev between : PlanePoint
  between = mixture s t q r some

  -- two numbers by these weights, each as often as the denominator says
  abbrev weighed : ℤ → ℤ → ℤ
  weighed y z = (s *ℤ q.d) *ℤ y +ℤ (t *ℤ r.d) *ℤ z

  -- the step's point by the same weights is where p's vertical line crosses it
  on_vertical : p.x *ℤ size ≡ weighed u.x v.x *ℤ p.d
  on_vertical = solve 6
      (λ x d u v c b. x ⊗ (((v ⊗ d ⊖ x) ⊗ b) ⊗ c ⊕ ((x ⊖ u ⊗ d) ⊗ c) ⊗ b) ≗
      ((((v ⊗ d ⊖ x) ⊗ b) ⊗ c) ⊗ u ⊕ (((x ⊖ u ⊗ d) ⊗ c) ⊗ b) ⊗ v) ⊗ d)
      tt p.x p.d u.x v.x q.d r.d

  -- the difference of its height from p tells the side of p
  lower_by_side : (p.d *ℤ (q.d *ℤ r.d)) *ℤ side (record { a = u; b = v }) p ≡ p.y *ℤ size -ℤ weighed u.y v.y *ℤ p.d
  lower_by_side = solve 9
      (λ x y d ux uy vx vy c b. (d ⊗ (c ⊗ b)) ⊗ sideE ux uy vx vy x y d ≗
      y ⊗ (((vx ⊗ d ⊖ x) ⊗ b) ⊗ c ⊕ ((x ⊖ ux ⊗ d) ⊗ c) ⊗ b) ⊖
      ((((vx ⊗ d ⊖ x) ⊗ b) ⊗ c) ⊗ uy ⊕ (((x ⊖ ux ⊗ d) ⊗ c) ⊗ b) ⊗ vy) ⊗ d)
      tt p.x p.y p.d u.x u.y v.x v.y q.d r.d

  -- the factor of the side is positive
  scale-positive : pos 0 <ℤ (p.d *ℤ (q.d *ℤ r.d))
  scale-positive = mul-pos p.d (q.d *ℤ r.d) p.positive (mul-pos q.d r.d q.positive r.positive)

  -- how far the step's point may be from that point
  near_x : ((pos 2 *ℤ between.x -ℤ size) ≤ℤ (pos 2 *ℤ weighed u.x v.x))
      × ((pos 2 *ℤ weighed u.x v.x) ≤ℤ (pos 2 *ℤ between.x +ℤ size))
  near_x = halves_mixed s t q.x q.d r.x r.d u.x v.x s_nonneg t_nonneg near_u.in_x near_v.in_x

  near_y : ((pos 2 *ℤ between.y -ℤ size) ≤ℤ (pos 2 *ℤ weighed u.y v.y))
      × ((pos 2 *ℤ weighed u.y v.y) ≤ℤ (pos 2 *ℤ between.y +ℤ size))
  near_y = halves_mixed s t q.y q.d r.y r.d u.y v.y s_nonneg t_nonneg near_u.in_y near_v.in_y

  -- where it is below the square, the step passes below p
  passes_below : IsBelowSquare p between → pos 0 <ℤ side (record { a = u; b = v }) p
  passes_below low =
      let lower = by_below p.y p.d size (weighed u.y v.y) between.y p.positive near_y.1 low in
      let same = lower_by_side in
      pos_of_mul-pos (p.d *ℤ (q.d *ℤ r.d)) (side (record { a = u; b = v }) p) scale-positive (omega linear)

  -- where it is high above the square, above p
  passes_high_above : IsHighAboveSquare p between → side (record { a = u; b = v }) p <ℤ pos 0
  passes_high_above high =
      let higher = by_high_above p.y p.d size (weighed u.y v.y) between.y p.positive near_y.0 high in
      let same = lower_by_side in
      neg_of_mul-neg (p.d *ℤ (q.d *ℤ r.d)) (side (record { a = u; b = v }) p) scale-positive (omega linear)

  -- the step crosses p's vertical line as a point of e in the closed column tells
  pub near_step_crosses : CrossesClosedSquare e p (record { a = u; b = v })
  near_step_crosses = record {
    at = between;
    on = mixture_on e s t q r some s_nonneg t_nonneg on_q on_r;
    column = record {
      from_left = at_left p.x p.d size (weighed u.x v.x) between.x p.positive on_vertical near_x.1;
      to_right = at_closed_right p.x p.d size (weighed u.x v.x) between.x p.positive on_vertical near_x.0;
    };
    below = passes_below;
    above = passes_high_above;
  }

  -- where both points are less than 1/2 below and left of q and r, so does a point in the half-open column
  module _ (left_u : (pos 2 *ℤ q.x -ℤ q.d) <ℤ (pos 2 *ℤ u.x *ℤ q.d))
      (left_v : (pos 2 *ℤ r.x -ℤ r.d) <ℤ (pos 2 *ℤ v.x *ℤ r.d))
      (low_u : (pos 2 *ℤ q.y -ℤ q.d) <ℤ (pos 2 *ℤ u.y *ℤ q.d))
      (low_v : (pos 2 *ℤ r.y -ℤ r.d) <ℤ (pos 2 *ℤ v.y *ℤ r.d)) where
    -- where that point is above the square, the step passes above p
    passes_above : IsAboveSquare p between → side (record { a = u; b = v }) p <ℤ pos 0
    passes_above high =
        let higher = by_above p.y p.d size (weighed u.y v.y) between.y p.positive
        (less_than_half_mixed s t q.y q.d r.y r.d u.y v.y s_positive t_nonneg low_u low_v) high in
        let same = lower_by_side in
        neg_of_mul-neg (p.d *ℤ (q.d *ℤ r.d)) (side (record { a = u; b = v }) p) scale-positive (omega linear)

    pub strict_step_crosses : CrossesSquare e p (record { a = u; b = v })
    strict_step_crosses = record {
      at = between;
      on = mixture_on e s t q r some s_nonneg t_nonneg on_q on_r;
      column = record {
        from_left = at_left p.x p.d size (weighed u.x v.x) between.x p.positive on_vertical near_x.1;
        to_right = at_right p.x p.d size (weighed u.x v.x) between.x p.positive on_vertical
            (less_than_half_mixed s t q.x q.d r.x r.d u.x v.x s_positive t_nonneg left_u left_v);
      };
      below = passes_below;
      above = passes_above;
    }

-- so does the step from the whole point nearest q to that nearest r
pub step_crosses : (e : Edge) (p q r : PlanePoint) → IsOn e q → IsOn e r → ((nearest_point q).x *ℤ p.d) ≤ℤ p.x →
    p.x <ℤ ((nearest_point r).x *ℤ p.d) → CrossesSquare e p (record { a = nearest_point q; b = nearest_point r })
step_crosses e p q r on_q on_r from to = strict_step_crosses e p q r on_q on_r (nearest_point q) (nearest_point r)
    (half_from_nearest q) (half_from_nearest r) from to (nearest-strict q.x q.d q.positive)
    (nearest-strict r.x r.d r.positive) (nearest-strict q.y q.d q.positive) (nearest-strict r.y r.d r.positive)
