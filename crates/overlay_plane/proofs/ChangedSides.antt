-- An end of a segment changes its side of another segment, when the places of all ends are moved along their levels.
use lib.IntN.{zero-*ℤ}
use Rattle.std.proofs.Common.{◌≡◌, ◌⊎◌, inl, inr, ⊎_elim, ℤ, pos, ◌+ℤ◌, ◌*ℤ◌, sym, ap, ◌∙◌}
use Rattle.overlay_geom.proofs.Signs.{linear}
use Rattle.overlay_plane.proofs.CommonLevels.{OfEnds, excess, HaveOneLevel, first_weights, second_weights}
use Rattle.overlay_plane.proofs.LostSigns.{LosesSign}
use Rattle.overlay_plane.proofs.PixelNumbers.{AreWeights, OrderChanges}
use Rattle.overlay_plane.proofs.WaysToEnds.{SomeIsZero}

-- an end of the level z changes the side on which it lies of the segment with the two other ends
pub record ChangesSides (z z1 z2 w w1 w2 v v1 v2 : ℤ) : Type 0 where
  pub m : ℤ
  pub n : ℤ
  pub weights : AreWeights m n
  pub level : (m +ℤ n) *ℤ z ≡ m *ℤ z1 +ℤ n *ℤ z2
  pub changes : OrderChanges m n w w1 w2 v v1 v2

-- an end of one of the two segments changes the side on which it lies of the other
abbrev pub SomeEndChangesSides : OfEnds → OfEnds → OfEnds → Type 0
SomeEndChangesSides z w v =
    (ChangesSides z.k z.p z.q w.k w.p w.q v.k v.p v.q ⊎ ChangesSides z.l z.p z.q w.l w.p w.q v.l v.p v.q)
    ⊎ (ChangesSides z.p z.k z.l w.p w.k w.l v.p v.k v.l ⊎ ChangesSides z.q z.k z.l w.q w.k w.l v.q v.k v.l)

-- an end that stands alone has all the weight
alone : (m n t x1 x2 : ℤ) → m ≡ pos 0 → m +ℤ n ≡ t → m *ℤ x1 +ℤ n *ℤ x2 ≡ t *ℤ x2
alone m n t x1 x2 none sum =
    let nothing = ap (λ s. s *ℤ x1) none ∙ zero-*ℤ x1 in
    let rest : n ≡ t = omega linear in
    let all = ap (λ s. s *ℤ x2) rest in
    omega linear

-- also where it is the first
alone_first : (m n t x1 x2 : ℤ) → n ≡ pos 0 → m +ℤ n ≡ t → m *ℤ x1 +ℤ n *ℤ x2 ≡ t *ℤ x1
alone_first m n t x1 x2 none sum = let other = alone n m t x2 x1 none (omega linear) in omega linear

-- at weights at which the excess in w, moved to v, loses its sign
module _ (z w v u : OfEnds) (have : HaveOneLevel z u) (lost : LosesSign (excess w u) (excess v u)) where
  -- an end of the first segment against the second
  of_first : (zi wi vi : ℤ) → u.p *ℤ z.p +ℤ u.q *ℤ z.q ≡ (u.k +ℤ u.l) *ℤ zi →
      u.p *ℤ w.p +ℤ u.q *ℤ w.q ≡ (u.k +ℤ u.l) *ℤ wi → u.p *ℤ v.p +ℤ u.q *ℤ v.q ≡ (u.k +ℤ u.l) *ℤ vi →
      ChangesSides zi z.k z.l wi w.k w.l vi v.k v.l
  of_first zi wi vi z_is w_is v_is = record {
    m = u.k;
    n = u.l;
    weights = second_weights z u have;
    level = let level = have.level in omega linear;
    changes = ⊎_elim
        (λ more. inr (let before = more.0 in omega linear, let after = more.1 in omega linear))
        (λ less. inl (let before = less.0 in omega linear, let after = less.1 in omega linear))
        lost;
  }

  -- an end of the second segment against the first
  of_second : (zi wi vi : ℤ) → u.k *ℤ z.k +ℤ u.l *ℤ z.l ≡ (u.p +ℤ u.q) *ℤ zi →
      u.k *ℤ w.k +ℤ u.l *ℤ w.l ≡ (u.p +ℤ u.q) *ℤ wi → u.k *ℤ v.k +ℤ u.l *ℤ v.l ≡ (u.p +ℤ u.q) *ℤ vi →
      ChangesSides zi z.p z.q wi w.p w.q vi v.p v.q
  of_second zi wi vi z_is w_is v_is = record {
    m = u.p;
    n = u.q;
    weights = first_weights z u have;
    level = let level = have.level in omega linear;
    changes = ⊎_elim
        (λ more. inl (let before = more.0 in omega linear, let after = more.1 in omega linear))
        (λ less. inr (let before = less.0 in omega linear, let after = less.1 in omega linear))
        lost;
  }

  -- where an end stands alone and the excess loses its sign, this end changes sides
  pub end_changes_sides : SomeIsZero u → SomeEndChangesSides z w v
  end_changes_sides (inl (inl e)) =
      let at = λ (x1 x2 : ℤ). alone u.p u.q (u.k +ℤ u.l) x1 x2 e have.even in
      inr (inr (of_first z.q w.q v.q (at z.p z.q) (at w.p w.q) (at v.p v.q)))
  end_changes_sides (inl (inr e)) =
      let at = λ (x1 x2 : ℤ). alone_first u.p u.q (u.k +ℤ u.l) x1 x2 e have.even in
      inr (inl (of_first z.p w.p v.p (at z.p z.q) (at w.p w.q) (at v.p v.q)))
  end_changes_sides (inr (inl e)) =
      let at = λ (x1 x2 : ℤ). alone u.k u.l (u.p +ℤ u.q) x1 x2 e (sym have.even) in
      inl (inr (of_second z.l w.l v.l (at z.k z.l) (at w.k w.l) (at v.k v.l)))
  end_changes_sides (inr (inr e)) =
      let at = λ (x1 x2 : ℤ). alone_first u.k u.l (u.p +ℤ u.q) x1 x2 e (sym have.even) in
      inl (inl (of_second z.k w.k v.k (at z.k z.l) (at w.k w.l) (at v.k v.l)))
