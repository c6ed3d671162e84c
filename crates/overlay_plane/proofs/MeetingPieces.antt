-- Two pieces whose steps meet: the pieces meet too, or a piece passes through the pixel of an end of the other step.
-- From the steps back to the pieces first y, then x, is restored to its value before rounding.
use Rattle.std.proofs.Common.{◌≡◌, ◌⊎◌, inl, inr, ⊎_elim, ℤ, pos, ◌+ℤ◌, ◌-ℤ◌, ◌*ℤ◌, ◌<ℤ◌, sym, ap, ap₂, ◌∙◌}
use Rattle.overlay_geom.specs.Plane.{PlanePoint, SamePlace, in_plane}
use Rattle.overlay_geom.specs.Rounding.{nearest, nearest_point}
use Rattle.overlay_geom.proofs.Identities.{solve, number, ◌⊕◌, ◌⊗◌, ◌⊖◌, ◌≗◌}
use Rattle.overlay_geom.proofs.Signs.{linear, mul-pos, mul-nonneg}
use Rattle.overlay_plane.specs.PixelSteps.{Between, mixed, PiecesMeet, PassesPixel, MeetingStepsPassPixels}
use Rattle.overlay_plane.proofs.ChangedSides.{SomeEndChangesSides}
use Rattle.overlay_plane.proofs.CommonLevels.{OfEnds, excess, HaveOneLevel, Meet, first_weights, second_weights}
use Rattle.overlay_plane.proofs.MovedSegments.{meet_or_change_sides}
use Rattle.overlay_plane.proofs.PassedPixels.{Factor, size, part, place, passed_as_x_moves, passed_as_y_moves}

-- the ends of the two pieces
module _ (p q k l : PlanePoint) where
  -- the common denominator
  abbrev whole : ℤ
  whole = (p.d *ℤ q.d) *ℤ (k.d *ℤ l.d)

  -- it is positive
  whole-positive : pos 0 <ℤ whole
  whole-positive = mul-pos (p.d *ℤ q.d) (k.d *ℤ l.d) (mul-pos p.d q.d p.positive q.positive)
      (mul-pos k.d l.d k.positive l.positive)

  -- the factors that bring the ends to it
  abbrev of_p : Factor whole p
  of_p = record {
    by = q.d *ℤ (k.d *ℤ l.d);
    positive = mul-pos q.d (k.d *ℤ l.d) q.positive (mul-pos k.d l.d k.positive l.positive);
    is = solve 4 (λ p q k l. p ⊗ (q ⊗ (k ⊗ l)) ≗ (p ⊗ q) ⊗ (k ⊗ l)) tt p.d q.d k.d l.d;
  }

  abbrev of_q : Factor whole q
  of_q = record {
    by = p.d *ℤ (k.d *ℤ l.d);
    positive = mul-pos p.d (k.d *ℤ l.d) p.positive (mul-pos k.d l.d k.positive l.positive);
    is = solve 4 (λ p q k l. q ⊗ (p ⊗ (k ⊗ l)) ≗ (p ⊗ q) ⊗ (k ⊗ l)) tt p.d q.d k.d l.d;
  }

  abbrev of_k : Factor whole k
  of_k = record {
    by = (p.d *ℤ q.d) *ℤ l.d;
    positive = mul-pos (p.d *ℤ q.d) l.d (mul-pos p.d q.d p.positive q.positive) l.positive;
    is = solve 4 (λ p q k l. k ⊗ ((p ⊗ q) ⊗ l) ≗ (p ⊗ q) ⊗ (k ⊗ l)) tt p.d q.d k.d l.d;
  }

  abbrev of_l : Factor whole l
  of_l = record {
    by = (p.d *ℤ q.d) *ℤ k.d;
    positive = mul-pos (p.d *ℤ q.d) k.d (mul-pos p.d q.d p.positive q.positive) k.positive;
    is = solve 4 (λ p q k l. l ⊗ ((p ⊗ q) ⊗ k) ≗ (p ⊗ q) ⊗ (k ⊗ l)) tt p.d q.d k.d l.d;
  }

  -- the coordinates of the ends over it
  abbrev xs : OfEnds
  xs = record { p = of_p.by *ℤ p.x; q = of_q.by *ℤ q.x; k = of_k.by *ℤ k.x; l = of_l.by *ℤ l.x }

  abbrev ys : OfEnds
  ys = record { p = of_p.by *ℤ p.y; q = of_q.by *ℤ q.y; k = of_k.by *ℤ k.y; l = of_l.by *ℤ l.y }

  -- the nearest whole points
  abbrev whole_xs : OfEnds
  whole_xs = record { p = nearest p.x p.d; q = nearest q.x q.d; k = nearest k.x k.d; l = nearest l.x l.d }

  abbrev whole_ys : OfEnds
  whole_ys = record { p = nearest p.y p.d; q = nearest q.y q.d; k = nearest k.y k.d; l = nearest l.y l.d }

  -- one of the pieces passes through the pixel of an end of the other
  abbrev SomePixelPassed : Type 0
  SomePixelPassed = (PassesPixel p q (nearest_point k) ⊎ PassesPixel p q (nearest_point l))
      ⊎ (PassesPixel k l (nearest_point p) ⊎ PassesPixel k l (nearest_point q))

  -- where an end changes sides as x is rounded
  passed_in_x : SomeEndChangesSides ys xs whole_xs → SomePixelPassed
  passed_in_x (inl (inl t)) = inl (inl (passed_as_x_moves whole whole-positive k p q of_k of_p of_q t))
  passed_in_x (inl (inr t)) = inl (inr (passed_as_x_moves whole whole-positive l p q of_l of_p of_q t))
  passed_in_x (inr (inl t)) = inr (inl (passed_as_x_moves whole whole-positive p k l of_p of_k of_l t))
  passed_in_x (inr (inr t)) = inr (inr (passed_as_x_moves whole whole-positive q k l of_q of_k of_l t))

  -- or as y is
  passed_in_y : SomeEndChangesSides whole_xs ys whole_ys → SomePixelPassed
  passed_in_y (inl (inl t)) = inl (inl (passed_as_y_moves whole whole-positive k p q of_k of_p of_q t))
  passed_in_y (inl (inr t)) = inl (inr (passed_as_y_moves whole whole-positive l p q of_l of_p of_q t))
  passed_in_y (inr (inl t)) = inr (inl (passed_as_y_moves whole whole-positive p k l of_p of_k of_l t))
  passed_in_y (inr (inr t)) = inr (inr (passed_as_y_moves whole whole-positive q k l of_q of_k of_l t))

  -- where the ends, weighed, have one x and one y
  module _ (u : OfEnds) (have : HaveOneLevel ys u) (zero : excess xs u ≡ pos 0) where
    -- the common point on the first piece
    abbrev first : Between p q
    first = part whole whole-positive p q of_p of_q u.p u.q (first_weights ys u have)

    -- and on the second
    abbrev second : Between k l
    second = part whole whole-positive k l of_k of_l u.k u.l (second_weights ys u have)

    -- both have one denominator
    sizes : second.m *ℤ k.d +ℤ second.n *ℤ l.d ≡ first.m *ℤ p.d +ℤ first.n *ℤ q.d
    sizes = size whole whole-positive k l of_k of_l u.k u.l (second_weights ys u have)
        ∙ ap (λ t. t *ℤ whole) (sym have.even)
        ∙ sym (size whole whole-positive p q of_p of_q u.p u.q (first_weights ys u have))

    -- and one place, by each coordinate
    same : (xp xq xk xl : ℤ) → u.p *ℤ (of_p.by *ℤ xp) +ℤ u.q *ℤ (of_q.by *ℤ xq) ≡
        u.k *ℤ (of_k.by *ℤ xk) +ℤ u.l *ℤ (of_l.by *ℤ xl) →
        (first.m *ℤ xp +ℤ first.n *ℤ xq) *ℤ (second.m *ℤ k.d +ℤ second.n *ℤ l.d) ≡
        (second.m *ℤ xk +ℤ second.n *ℤ xl) *ℤ (first.m *ℤ p.d +ℤ first.n *ℤ q.d)
    same xp xq xk xl is = ap₂ (λ x d. x *ℤ d)
        (place whole whole-positive p q of_p of_q u.p u.q (first_weights ys u have) xp xq ∙ is
        ∙ sym (place whole whole-positive k l of_k of_l u.k u.l (second_weights ys u have) xk xl)) sizes

    -- the pieces meet
    pieces_meet : PiecesMeet p q k l
    pieces_meet = (
      first,
      second,
      (
        same p.x q.x k.x l.x (omega linear),
        same p.y q.y k.y l.y (let level = have.level in omega linear),
      ),
    )

  -- where the steps meet in a point that b and c mix
  module _ (b : Between (in_plane (nearest_point p)) (in_plane (nearest_point q)))
      (c : Between (in_plane (nearest_point k)) (in_plane (nearest_point l)))
      (one : SamePlace (mixed b) (mixed c)) where
    -- its weights over one sum
    abbrev at : OfEnds
    at = record {
      p = b.m *ℤ (mixed c).d;
      q = b.n *ℤ (mixed c).d;
      k = c.m *ℤ (mixed b).d;
      l = c.n *ℤ (mixed b).d;
    }

    -- the weighed coordinates differ as the mixtures over their denominators do
    weighed : (w : OfEnds) → excess w at ≡ (b.m *ℤ w.p +ℤ b.n *ℤ w.q) *ℤ (mixed c).d
        -ℤ (c.m *ℤ w.k +ℤ c.n *ℤ w.l) *ℤ (mixed b).d
    weighed w = solve 10 (λ wp wq wk wl bm bn cm cn bd cd.
        ((bm ⊗ cd) ⊗ wp ⊕ (bn ⊗ cd) ⊗ wq) ⊖ ((cm ⊗ bd) ⊗ wk ⊕ (cn ⊗ bd) ⊗ wl) ≗
        (bm ⊗ wp ⊕ bn ⊗ wq) ⊗ cd ⊖ (cm ⊗ wk ⊕ cn ⊗ wl) ⊗ bd) tt
        w.p w.q w.k w.l b.m b.n c.m c.n (mixed b).d (mixed c).d

    -- so at them the steps have one x
    one_x : HaveOneLevel whole_xs at
    one_x = record {
      p = mul-nonneg b.m (mixed c).d b.m_nonneg (let some = c.some in omega linear);
      q = mul-nonneg b.n (mixed c).d b.n_nonneg (let some = c.some in omega linear);
      k = mul-nonneg c.m (mixed b).d c.m_nonneg (let some = b.some in omega linear);
      l = mul-nonneg c.n (mixed b).d c.n_nonneg (let some = b.some in omega linear);
      some =
          let product = mul-pos (mixed b).d (mixed c).d b.some c.some in
          let spread = solve 3 (λ m n d. (m ⊗ number (pos 1) ⊕ n ⊗ number (pos 1)) ⊗ d ≗ m ⊗ d ⊕ n ⊗ d) tt
          b.m b.n (mixed c).d in
          omega linear;
      even = solve 4 (λ m n s t.
          m ⊗ (s ⊗ number (pos 1) ⊕ t ⊗ number (pos 1)) ⊕ n ⊗ (s ⊗ number (pos 1) ⊕ t ⊗ number (pos 1)) ≗
          s ⊗ (m ⊗ number (pos 1) ⊕ n ⊗ number (pos 1)) ⊕ t ⊗ (m ⊗ number (pos 1) ⊕ n ⊗ number (pos 1))) tt
          b.m b.n c.m c.n;
      level = let is = weighed whole_xs in let same = one.0 in omega linear;
    }

    -- so with y as it was they meet or an end changes sides, and where they meet, so with x as it was
    meet_or_pass : PiecesMeet p q k l ⊎ SomePixelPassed
    meet_or_pass = ⊎_elim before_y (λ change. inr (passed_in_y change))
        (meet_or_change_sides whole_xs ys whole_ys at one_x
        (let is = weighed whole_ys in let same = one.1 in omega linear))
      where
        before_y : Meet whole_xs ys → PiecesMeet p q k l ⊎ SomePixelPassed
        before_y (u, have, zero) = ⊎_elim (λ meet. inl (pieces_meet meet.0 meet.1 meet.2))
            (λ change. inr (passed_in_x change))
            (meet_or_change_sides ys xs whole_xs u (record {
              p = have.p;
              q = have.q;
              k = have.k;
              l = have.l;
              some = have.some;
              even = have.even;
              level = zero;
            }) have.level)

-- where the steps of two pieces meet, the pieces meet, or one passes through the pixel of an end of the other step
pub meeting_steps_pass_pixels : MeetingStepsPassPixels
meeting_steps_pass_pixels p q k l (b, c, one) = meet_or_pass p q k l b c one
