-- Pieces between points brought to one denominator: if an end of another piece changes sides as it is rounded, the
-- piece passes through its pixel.
use Rattle.std.proofs.Common.{◌≡◌, ℤ, pos, ◌+ℤ◌, ◌*ℤ◌, ◌<ℤ◌, ap₂, ◌∙◌, subst}
use Rattle.overlay_geom.specs.Plane.{Point, PlanePoint}
use Rattle.overlay_geom.specs.Rounding.{nearest, nearest_point}
use Rattle.overlay_geom.proofs.Identities.{solve, ◌⊕◌, ◌⊗◌, ◌≗◌}
use Rattle.overlay_geom.proofs.Signs.{linear, mul-pos, mul-nonneg}
use Rattle.overlay_plane.specs.PixelSteps.{Between, PassesPixel}
use Rattle.overlay_plane.proofs.ChangedSides.{ChangesSides}
use Rattle.overlay_plane.proofs.PixelNumbers.{RoundsTo, AreWeights, rounds_to_nearest, nearest_of_rounds}
use Rattle.overlay_plane.proofs.PixelNumbers.{mixtures_round, weighed_rounds, changed_order_rounds}

-- the factor of a point's coordinates over this denominator
pub record Factor (whole : ℤ) (p : PlanePoint) : Type 0 where
  pub by : ℤ
  pub positive : pos 0 <ℤ by
  pub is : p.d *ℤ by ≡ whole

-- points over one denominator
module _ (whole : ℤ) (some : pos 0 <ℤ whole) where
  -- over it x rounds to the nearest number too
  at_x : (p : PlanePoint) (f : Factor whole p) → RoundsTo (nearest p.x p.d) (f.by *ℤ p.x) whole
  at_x p f = rounds_to_nearest p.x p.d f.by whole p.positive f.positive f.is

  -- and y
  at_y : (p : PlanePoint) (f : Factor whole p) → RoundsTo (nearest p.y p.d) (f.by *ℤ p.y) whole
  at_y p f = rounds_to_nearest p.y p.d f.by whole p.positive f.positive f.is

  -- the piece from p to q, and weights of these ends
  module _ (p q : PlanePoint) (f : Factor whole p) (g : Factor whole q) (m n : ℤ) (weights : AreWeights m n) where
    -- the denominator of the mixture
    pub size : (m *ℤ f.by) *ℤ p.d +ℤ (n *ℤ g.by) *ℤ q.d ≡ (m +ℤ n) *ℤ whole
    size = solve 6 (λ m n a b c d. (m ⊗ a) ⊗ b ⊕ (n ⊗ c) ⊗ d ≗ m ⊗ (b ⊗ a) ⊕ n ⊗ (d ⊗ c)) tt m n f.by p.d g.by q.d
        ∙ (λ i. m *ℤ f.is i +ℤ n *ℤ g.is i)
        ∙ solve 3 (λ m n w. m ⊗ w ⊕ n ⊗ w ≗ (m ⊕ n) ⊗ w) tt m n whole

    -- it is positive
    pub size-positive : pos 0 <ℤ ((m +ℤ n) *ℤ whole)
    size-positive = mul-pos (m +ℤ n) whole weights.some some

    -- the mixture by these weights
    abbrev pub part : Between p q
    part = record {
      m = m *ℤ f.by;
      n = n *ℤ g.by;
      m_nonneg = let positive = f.positive in mul-nonneg m f.by weights.first (omega linear);
      n_nonneg = let positive = g.positive in mul-nonneg n g.by weights.second (omega linear);
      some = let is = size in let positive = size-positive in omega linear;
    }

    -- a coordinate of it
    pub place : (x y : ℤ) → (m *ℤ f.by) *ℤ x +ℤ (n *ℤ g.by) *ℤ y ≡ m *ℤ (f.by *ℤ x) +ℤ n *ℤ (g.by *ℤ y)
    place = solve 6 (λ m n a b x y. (m ⊗ a) ⊗ x ⊕ (n ⊗ b) ⊗ y ≗ m ⊗ (a ⊗ x) ⊕ n ⊗ (b ⊗ y)) tt m n f.by g.by

    -- where both coordinates round to those of a whole point, the piece passes through its pixel
    passes : (v : Point) → RoundsTo v.x (m *ℤ (f.by *ℤ p.x) +ℤ n *ℤ (g.by *ℤ q.x)) ((m +ℤ n) *ℤ whole) →
        RoundsTo v.y (m *ℤ (f.by *ℤ p.y) +ℤ n *ℤ (g.by *ℤ q.y)) ((m +ℤ n) *ℤ whole) → PassesPixel p q v
    passes v x y = (
      part,
      ap₂ (λ x y. record { x = x; y = y })
          (ap₂ nearest (place p.x q.x) size ∙ nearest_of_rounds v.x _ _ size-positive x)
          (ap₂ nearest (place p.y q.y) size ∙ nearest_of_rounds v.y _ _ size-positive y),
    )

  -- an end e of one piece, and the piece from p to q
  module _ (e p q : PlanePoint) (h : Factor whole e) (f : Factor whole p) (g : Factor whole q) where
    -- where e changes sides as x is rounded, the piece passes through its pixel
    pub passed_as_x_moves : ChangesSides (h.by *ℤ e.y) (f.by *ℤ p.y) (g.by *ℤ q.y) (h.by *ℤ e.x) (f.by *ℤ p.x)
        (g.by *ℤ q.x) (nearest e.x e.d) (nearest p.x p.d) (nearest q.x q.d) → PassesPixel p q (nearest_point e)
    passed_as_x_moves t = passes p q f g t.m t.n t.weights (nearest_point e)
        (changed_order_rounds whole t.m t.n (h.by *ℤ e.x) (f.by *ℤ p.x) (g.by *ℤ q.x) (nearest e.x e.d)
        (nearest p.x p.d) (nearest q.x q.d) some t.weights (at_x e h) (at_x p f) (at_x q g) t.changes)
        (subst (λ z. RoundsTo (nearest e.y e.d) z ((t.m +ℤ t.n) *ℤ whole)) t.level
        (weighed_rounds (t.m +ℤ t.n) (nearest e.y e.d) (h.by *ℤ e.y) whole t.weights.some (at_y e h)))

    -- the piece passes if the end changes sides with y as it is and x rounded
    pub passed_as_y_moves : ChangesSides (nearest e.x e.d) (nearest p.x p.d) (nearest q.x q.d) (h.by *ℤ e.y)
        (f.by *ℤ p.y) (g.by *ℤ q.y) (nearest e.y e.d) (nearest p.y p.d) (nearest q.y q.d) →
        PassesPixel p q (nearest_point e)
    passed_as_y_moves t = passes p q f g t.m t.n t.weights (nearest_point e)
        (mixtures_round whole t.m t.n (f.by *ℤ p.x) (g.by *ℤ q.x) (nearest p.x p.d) (nearest q.x q.d) t.weights
        (at_x p f) (at_x q g) (nearest e.x e.d) some t.level)
        (changed_order_rounds whole t.m t.n (h.by *ℤ e.y) (f.by *ℤ p.y) (g.by *ℤ q.y) (nearest e.y e.d)
        (nearest p.y p.d) (nearest q.y q.d) some t.weights (at_y e h) (at_y p f) (at_y q g) t.changes)
