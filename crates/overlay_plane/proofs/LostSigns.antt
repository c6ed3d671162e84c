-- Two numbers that mix to 0 after they are moved mix to 0 before, or one of them loses its sign.
use Rattle.std.proofs.Common.{◌≡◌, ◌⊎◌, inl, inr, ℤ, pos, ◌+ℤ◌, ◌-ℤ◌, ◌*ℤ◌, ◌<ℤ◌, ◌≤ℤ◌}
use Rattle.std.proofs.lemmas.Int.{by_lt_z}
use Rattle.overlay_geom.proofs.Identities.{solve, number, ◌⊕◌, ◌⊗◌, ◌⊖◌, ◌≗◌}
use Rattle.overlay_geom.proofs.Signs.{linear, by_sign, mul-pos, mul-neg, pos_of_mul-pos, neg_of_mul-neg}

-- a number that has one strict sign and, moved, not the same one
abbrev pub LosesSign : ℤ → ℤ → Type 0
LosesSign g moved = ((pos 0 <ℤ g) × (moved ≤ℤ pos 0)) ⊎ ((g <ℤ pos 0) × (pos 0 ≤ℤ moved))

-- weights by which two numbers mix to 0
pub record MixToZero (g h : ℤ) : Type 0 where
  pub i : ℤ
  pub j : ℤ
  pub i_nonneg : pos 0 ≤ℤ i
  pub j_nonneg : pos 0 ≤ℤ j
  pub some : pos 0 <ℤ (i +ℤ j)
  pub is_zero : i *ℤ g +ℤ j *ℤ h ≡ pos 0

-- two numbers that, moved, mix to 0 by positive weights
module _ (x y g h moved_g moved_h : ℤ) (x_pos : pos 0 <ℤ x) (y_pos : pos 0 <ℤ y)
    (is_zero : x *ℤ moved_g +ℤ y *ℤ moved_h ≡ pos 0) where
  -- before, one may be 0
  first_zero : g ≡ pos 0 → MixToZero g h
  first_zero e = record {
    i = pos 1;
    j = pos 0;
    i_nonneg = omega linear;
    j_nonneg = omega linear;
    some = omega linear;
    is_zero = let sum = solve 2 (λ g h. number (pos 1) ⊗ g ⊕ number (pos 0) ⊗ h ≗ g) tt g h in omega linear;
  }

  -- or the other
  second_zero : h ≡ pos 0 → MixToZero g h
  second_zero e = record {
    i = pos 0;
    j = pos 1;
    i_nonneg = omega linear;
    j_nonneg = omega linear;
    some = omega linear;
    is_zero = let sum = solve 2 (λ g h. number (pos 0) ⊗ g ⊕ number (pos 1) ⊗ h ≗ h) tt g h in omega linear;
  }

  -- where both are positive, one is not once they are moved
  both_positive : pos 0 <ℤ g → pos 0 <ℤ h → LosesSign g moved_g ⊎ LosesSign h moved_h
  both_positive p q = by_lt_z (pos 0) moved_g
      (λ still.
      let more = mul-pos x moved_g x_pos still in
      let less = neg_of_mul-neg y moved_h y_pos (omega linear) in
      inr (inl (q, omega linear)))
      (λ no. inl (inl (p, no)))

  -- this holds if both are negative
  both_negative : g <ℤ pos 0 → h <ℤ pos 0 → LosesSign g moved_g ⊎ LosesSign h moved_h
  both_negative p q = by_lt_z moved_g (pos 0)
      (λ still.
      let less = mul-neg x moved_g x_pos still in
      let more = pos_of_mul-pos y moved_h y_pos (omega linear) in
      inr (inr (q, omega linear)))
      (λ no. inl (inr (p, no)))

  -- the two mix to 0 before, or one loses its sign
  pub mix_or_lose_sign : MixToZero g h ⊎ (LosesSign g moved_g ⊎ LosesSign h moved_h)
  mix_or_lose_sign = by_sign g
      (λ g_neg. by_sign h (λ h_neg. inr (both_negative g_neg h_neg)) (λ e. inl (second_zero e))
      (λ h_pos. inl (record {
        i = h;
        j = pos 0 -ℤ g;
        i_nonneg = omega linear;
        j_nonneg = omega linear;
        some = omega linear;
        is_zero = solve 2 (λ g h. h ⊗ g ⊕ (number (pos 0) ⊖ g) ⊗ h ≗ number (pos 0)) tt g h;
      })))
      (λ e. inl (first_zero e))
      (λ g_pos. by_sign h
      (λ h_neg. inl (record {
        i = pos 0 -ℤ h;
        j = g;
        i_nonneg = omega linear;
        j_nonneg = omega linear;
        some = omega linear;
        is_zero = solve 2 (λ g h. (number (pos 0) ⊖ h) ⊗ g ⊕ g ⊗ h ≗ number (pos 0)) tt g h;
      }))
      (λ e. inl (second_zero e)) (λ h_pos. inr (both_positive g_pos h_pos)))
