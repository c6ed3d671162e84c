-- Two segments in the plane, and the weights of their ends at which both have equal levels.
use Rattle.std.proofs.Common.{◌≡◌, ℤ, pos, ◌+ℤ◌, ◌-ℤ◌, ◌*ℤ◌, ◌<ℤ◌, ◌≤ℤ◌, sym, ap, ◌∙◌}
use Rattle.std.proofs.lemmas.Int.{by_lt_z}
use Rattle.overlay_geom.proofs.Identities.{Expr, solve, number, ◌⊕◌, ◌⊗◌, ◌⊖◌, ◌≗◌}
use Rattle.overlay_geom.proofs.Signs.{linear, mul-pos, mul-nonneg}
use Rattle.overlay_plane.proofs.PixelNumbers.{AreWeights}

-- a number for each end of the segment from p to q and of that from k to l
pub record OfEnds : Type 0 where
  pub p : ℤ
  pub q : ℤ
  pub k : ℤ
  pub l : ℤ

-- how much greater the number of the first segment is at these weights than that of the second
abbrev pub excess : OfEnds → OfEnds → ℤ
excess w u = (u.p *ℤ w.p +ℤ u.q *ℤ w.q) -ℤ (u.k *ℤ w.k +ℤ u.l *ℤ w.l)

-- at the weights u the two segments, with the levels z of their ends, have one level
pub record HaveOneLevel (z u : OfEnds) : Type 0 where
  pub p : pos 0 ≤ℤ u.p
  pub q : pos 0 ≤ℤ u.q
  pub k : pos 0 ≤ℤ u.k
  pub l : pos 0 ≤ℤ u.l
  pub some : pos 0 <ℤ (u.p +ℤ u.q)
  pub even : u.p +ℤ u.q ≡ u.k +ℤ u.l
  pub level : excess z u ≡ pos 0

-- weights at which the two segments have a point in common
abbrev pub Meet : OfEnds → OfEnds → Type 0
Meet z w = (u : OfEnds) × HaveOneLevel z u × (excess w u ≡ pos 0)

-- the weights of the first segment's ends
pub first_weights : (z u : OfEnds) → HaveOneLevel z u → AreWeights u.p u.q
first_weights z u have = record { first = have.p; second = have.q; some = have.some }

-- and those of the second's
pub second_weights : (z u : OfEnds) → HaveOneLevel z u → AreWeights u.k u.l
second_weights z u have = record {
  first = have.k;
  second = have.l;
  some = let some = have.some in let even = have.even in omega linear;
}

-- i times the weights u and j times the weights v
abbrev pub mixed_weights : ℤ → OfEnds → ℤ → OfEnds → OfEnds
mixed_weights i u j v = record {
  p = i *ℤ u.p +ℤ j *ℤ v.p;
  q = i *ℤ u.q +ℤ j *ℤ v.q;
  k = i *ℤ u.k +ℤ j *ℤ v.k;
  l = i *ℤ u.l +ℤ j *ℤ v.l;
}

abbrev excessE : (wp wq wk wl up uq uk ul : Expr) → Expr
excessE wp wq wk wl up uq uk ul = (up ⊗ wp ⊕ uq ⊗ wq) ⊖ (uk ⊗ wk ⊕ ul ⊗ wl)

-- the excess of mixed weights is that of the weights, mixed
pub excess_mixed : (w u v : OfEnds) (i j : ℤ) →
    excess w (mixed_weights i u j v) ≡ i *ℤ excess w u +ℤ j *ℤ excess w v
excess_mixed w u v i j = solve 14 (λ wp wq wk wl up uq uk ul vp vq vk vl i j.
    excessE wp wq wk wl (i ⊗ up ⊕ j ⊗ vp) (i ⊗ uq ⊕ j ⊗ vq) (i ⊗ uk ⊕ j ⊗ vk) (i ⊗ ul ⊕ j ⊗ vl) ≗
    i ⊗ excessE wp wq wk wl up uq uk ul ⊕ j ⊗ excessE wp wq wk wl vp vq vk vl) tt
    w.p w.q w.k w.l u.p u.q u.k u.l v.p v.q v.k v.l i j

-- mixed weights have one level too
pub mixed_level : (z u v : OfEnds) (i j : ℤ) → pos 0 ≤ℤ i → pos 0 ≤ℤ j → pos 0 <ℤ (i +ℤ j) → HaveOneLevel z u →
    HaveOneLevel z v → HaveOneLevel z (mixed_weights i u j v)
mixed_level z u v i j i_nonneg j_nonneg some at_u at_v = record {
  p = mixed_nonneg u.p v.p at_u.p at_v.p;
  q = mixed_nonneg u.q v.q at_u.q at_v.q;
  k = mixed_nonneg u.k v.k at_u.k at_v.k;
  l = mixed_nonneg u.l v.l at_u.l at_v.l;
  some = by_lt_z (pos 0) i
      (λ i_pos.
      let a = mul-pos i (u.p +ℤ u.q) i_pos at_u.some in
      let v_some = at_v.some in
      let b = mul-nonneg j (v.p +ℤ v.q) j_nonneg (omega linear) in
      let sum = spread u.p u.q v.p v.q in
      omega linear)
      (λ none.
      let u_some = at_u.some in
      let a = mul-nonneg i (u.p +ℤ u.q) i_nonneg (omega linear) in
      let b = mul-pos j (v.p +ℤ v.q) (omega linear) at_v.some in
      let sum = spread u.p u.q v.p v.q in
      omega linear);
  even = spread u.p u.q v.p v.q ∙ ap (λ t. i *ℤ t +ℤ j *ℤ (v.p +ℤ v.q)) at_u.even
      ∙ ap (λ t. i *ℤ (u.k +ℤ u.l) +ℤ j *ℤ t) at_v.even ∙ sym (spread u.k u.l v.k v.l);
  level = excess_mixed z u v i j ∙ ap (λ t. i *ℤ t +ℤ j *ℤ excess z v) at_u.level
      ∙ ap (λ t. i *ℤ pos 0 +ℤ j *ℤ t) at_v.level
      ∙ solve 2 (λ i j. i ⊗ number (pos 0) ⊕ j ⊗ number (pos 0) ≗ number (pos 0)) tt i j;
}
  where
    mixed_nonneg : (a b : ℤ) → pos 0 ≤ℤ a → pos 0 ≤ℤ b → pos 0 ≤ℤ (i *ℤ a +ℤ j *ℤ b)
    mixed_nonneg a b p q =
        let first = mul-nonneg i a i_nonneg p in
        let second = mul-nonneg j b j_nonneg q in
        omega linear

    spread : (a b c d : ℤ) → (i *ℤ a +ℤ j *ℤ c) +ℤ (i *ℤ b +ℤ j *ℤ d) ≡ i *ℤ (a +ℤ b) +ℤ j *ℤ (c +ℤ d)
    spread = solve 6 (λ i j a b c d. (i ⊗ a ⊕ j ⊗ c) ⊕ (i ⊗ b ⊕ j ⊗ d) ≗ i ⊗ (a ⊕ b) ⊕ j ⊗ (c ⊕ d)) tt i j
