-- Numbers that round to whole numbers: their mixtures round to whole mixtures. Where rounding changes the order of a
-- number and a mixture, both round to one whole number.
use Rattle.std.proofs.Common.{◌≡◌, ◌⊎◌, inl, inr, ℤ, pos, ◌+ℤ◌, ◌-ℤ◌, ◌*ℤ◌, ◌<ℤ◌, ◌≤ℤ◌, ap, ◌∙◌}
use Rattle.overlay_geom.specs.Rounding.{nearest}
use Rattle.overlay_geom.proofs.Identities.{solve, number, ◌⊕◌, ◌⊗◌, ◌⊖◌, ◌≗◌}
use Rattle.overlay_geom.proofs.Rounded.{nearest-strict, nearest-within, nearest-unique}
use Rattle.overlay_geom.proofs.Signs.{linear, mul-le, mul-lt}

-- z / d rounds to the whole number v, a half upwards
pub record RoundsTo (v z d : ℤ) : Type 0 where
  pub low : ((pos 2 *ℤ v -ℤ pos 1) *ℤ d) ≤ℤ (pos 2 *ℤ z)
  pub high : (pos 2 *ℤ z) <ℤ ((pos 2 *ℤ v +ℤ pos 1) *ℤ d)

-- weights that are not negative, and not both 0
pub record AreWeights (m n : ℤ) : Type 0 where
  pub first : pos 0 ≤ℤ m
  pub second : pos 0 ≤ℤ n
  pub some : pos 0 <ℤ (m +ℤ n)

-- x and the mixture of x1 and x2 change their order when they are rounded to v and to the mixture of v1 and v2
abbrev pub OrderChanges : ℤ → ℤ → ℤ → ℤ → ℤ → ℤ → ℤ → ℤ → Type 0
OrderChanges m n x x1 x2 v v1 v2 =
    ((((m +ℤ n) *ℤ x) <ℤ (m *ℤ x1 +ℤ n *ℤ x2)) × ((m *ℤ v1 +ℤ n *ℤ v2) ≤ℤ ((m +ℤ n) *ℤ v)))
    ⊎ (((m *ℤ x1 +ℤ n *ℤ x2) <ℤ ((m +ℤ n) *ℤ x)) × (((m +ℤ n) *ℤ v) ≤ℤ (m *ℤ v1 +ℤ n *ℤ v2)))

-- ---- the nearest number

-- a bound over a denominator, times a factor of it
scaled : (c d e whole : ℤ) → d *ℤ e ≡ whole → e *ℤ (c *ℤ d) ≡ c *ℤ whole
scaled c d e whole is = solve 3 (λ c d e. e ⊗ (c ⊗ d) ≗ c ⊗ (d ⊗ e)) tt c d e ∙ ap (λ z. c *ℤ z) is

-- a fraction rounds to the number nearest it, also over a multiple of its denominator
pub rounds_to_nearest : (z d e whole : ℤ) → pos 0 <ℤ d → pos 0 <ℤ e → d *ℤ e ≡ whole →
    RoundsTo (nearest z d) (e *ℤ z) whole
rounds_to_nearest z d e whole some factor is =
    let twice = solve 2 (λ e z. e ⊗ (number (pos 2) ⊗ z) ≗ number (pos 2) ⊗ (e ⊗ z)) tt e z in
    record {
      low =
          let near = (nearest-within z d some).1 in
          let less = solve 2 (λ v d. (number (pos 2) ⊗ v ⊖ number (pos 1)) ⊗ d ≗ number (pos 2) ⊗ v ⊗ d ⊖ d) tt
          (nearest z d) d in
          let times = mul-le e ((pos 2 *ℤ nearest z d -ℤ pos 1) *ℤ d) (pos 2 *ℤ z) (omega linear) (omega linear) in
          let over = scaled (pos 2 *ℤ nearest z d -ℤ pos 1) d e whole is in
          omega linear;
      high =
          let near = nearest-strict z d some in
          let more = solve 2 (λ v d. (number (pos 2) ⊗ v ⊕ number (pos 1)) ⊗ d ≗ number (pos 2) ⊗ v ⊗ d ⊕ d) tt
          (nearest z d) d in
          let times = mul-lt e (pos 2 *ℤ z) ((pos 2 *ℤ nearest z d +ℤ pos 1) *ℤ d) factor (omega linear) in
          let over = scaled (pos 2 *ℤ nearest z d +ℤ pos 1) d e whole is in
          omega linear;
    }

-- the number to which a fraction rounds is the nearest number
pub nearest_of_rounds : (v z d : ℤ) → pos 0 <ℤ d → RoundsTo v z d → nearest z d ≡ v
nearest_of_rounds v z d some at =
    let low = at.low in
    let high = at.high in
    let less = solve 2 (λ v d. (number (pos 2) ⊗ v ⊖ number (pos 1)) ⊗ d ≗ number (pos 2) ⊗ v ⊗ d ⊖ d) tt v d in
    let more = solve 2 (λ v d. (number (pos 2) ⊗ v ⊕ number (pos 1)) ⊗ d ≗ number (pos 2) ⊗ v ⊗ d ⊕ d) tt v d in
    nearest-unique z d v some (omega linear) (omega linear)

-- ---- mixtures

module _ (d m n x1 x2 v1 v2 : ℤ) (weights : AreWeights m n) (at1 : RoundsTo v1 x1 d) (at2 : RoundsTo v2 x2 d) where
  -- twice the mixture is no less than the mixture of the lower bounds
  mixed_low : ((pos 2 *ℤ (m *ℤ v1 +ℤ n *ℤ v2) -ℤ (m +ℤ n)) *ℤ d) ≤ℤ (pos 2 *ℤ (m *ℤ x1 +ℤ n *ℤ x2))
  mixed_low =
      let a = mul-le m ((pos 2 *ℤ v1 -ℤ pos 1) *ℤ d) (pos 2 *ℤ x1) weights.first at1.low in
      let b = mul-le n ((pos 2 *ℤ v2 -ℤ pos 1) *ℤ d) (pos 2 *ℤ x2) weights.second at2.low in
      let left = solve 5 (λ d m n v1 v2. (number (pos 2) ⊗ (m ⊗ v1 ⊕ n ⊗ v2) ⊖ (m ⊕ n)) ⊗ d ≗
      m ⊗ ((number (pos 2) ⊗ v1 ⊖ number (pos 1)) ⊗ d) ⊕ n ⊗ ((number (pos 2) ⊗ v2 ⊖ number (pos 1)) ⊗ d))
      tt d m n v1 v2 in
      let right = solve 4 (λ m n x1 x2. number (pos 2) ⊗ (m ⊗ x1 ⊕ n ⊗ x2) ≗
      m ⊗ (number (pos 2) ⊗ x1) ⊕ n ⊗ (number (pos 2) ⊗ x2)) tt m n x1 x2 in
      omega linear

  -- and less than that of the upper
  mixed_high : (pos 2 *ℤ (m *ℤ x1 +ℤ n *ℤ x2)) <ℤ ((pos 2 *ℤ (m *ℤ v1 +ℤ n *ℤ v2) +ℤ (m +ℤ n)) *ℤ d)
  mixed_high =
      let a = mul-le m (pos 2 *ℤ x1 +ℤ pos 1) ((pos 2 *ℤ v1 +ℤ pos 1) *ℤ d) weights.first
      (let h = at1.high in omega linear) in
      let b = mul-le n (pos 2 *ℤ x2 +ℤ pos 1) ((pos 2 *ℤ v2 +ℤ pos 1) *ℤ d) weights.second
      (let h = at2.high in omega linear) in
      let left = solve 5 (λ d m n v1 v2. (number (pos 2) ⊗ (m ⊗ v1 ⊕ n ⊗ v2) ⊕ (m ⊕ n)) ⊗ d ≗
      m ⊗ ((number (pos 2) ⊗ v1 ⊕ number (pos 1)) ⊗ d) ⊕ n ⊗ ((number (pos 2) ⊗ v2 ⊕ number (pos 1)) ⊗ d))
      tt d m n v1 v2 in
      let right = solve 4 (λ m n x1 x2. number (pos 2) ⊗ (m ⊗ x1 ⊕ n ⊗ x2) ⊕ (m ⊕ n) ≗
      m ⊗ (number (pos 2) ⊗ x1 ⊕ number (pos 1)) ⊕ n ⊗ (number (pos 2) ⊗ x2 ⊕ number (pos 1))) tt m n x1 x2 in
      let some = weights.some in
      omega linear

  -- where the mixture of the whole numbers is at least v, twice the mixture is no less than the lower bound of v
  at_least : (v : ℤ) → pos 0 <ℤ d → ((m +ℤ n) *ℤ v) ≤ℤ (m *ℤ v1 +ℤ n *ℤ v2) →
      ((pos 2 *ℤ v -ℤ pos 1) *ℤ ((m +ℤ n) *ℤ d)) ≤ℤ (pos 2 *ℤ (m *ℤ x1 +ℤ n *ℤ x2))
  at_least v some le =
      let mixed = mixed_low in
      let lower = mul-le d ((m +ℤ n) *ℤ v) (m *ℤ v1 +ℤ n *ℤ v2) (omega linear) le in
      let left = solve 5 (λ d m n v1 v2. (number (pos 2) ⊗ (m ⊗ v1 ⊕ n ⊗ v2) ⊖ (m ⊕ n)) ⊗ d ≗
      d ⊗ (m ⊗ v1 ⊕ n ⊗ v2) ⊕ d ⊗ (m ⊗ v1 ⊕ n ⊗ v2) ⊖ (m ⊕ n) ⊗ d) tt d m n v1 v2 in
      let right = solve 4 (λ d m n v. (number (pos 2) ⊗ v ⊖ number (pos 1)) ⊗ ((m ⊕ n) ⊗ d) ≗
      d ⊗ ((m ⊕ n) ⊗ v) ⊕ d ⊗ ((m ⊕ n) ⊗ v) ⊖ (m ⊕ n) ⊗ d) tt d m n v in
      omega linear

  -- and where it is at most v, less than the upper
  at_most : (v : ℤ) → pos 0 <ℤ d → (m *ℤ v1 +ℤ n *ℤ v2) ≤ℤ ((m +ℤ n) *ℤ v) →
      (pos 2 *ℤ (m *ℤ x1 +ℤ n *ℤ x2)) <ℤ ((pos 2 *ℤ v +ℤ pos 1) *ℤ ((m +ℤ n) *ℤ d))
  at_most v some le =
      let mixed = mixed_high in
      let upper = mul-le d (m *ℤ v1 +ℤ n *ℤ v2) ((m +ℤ n) *ℤ v) (omega linear) le in
      let left = solve 5 (λ d m n v1 v2. (number (pos 2) ⊗ (m ⊗ v1 ⊕ n ⊗ v2) ⊕ (m ⊕ n)) ⊗ d ≗
      d ⊗ (m ⊗ v1 ⊕ n ⊗ v2) ⊕ d ⊗ (m ⊗ v1 ⊕ n ⊗ v2) ⊕ (m ⊕ n) ⊗ d) tt d m n v1 v2 in
      let right = solve 4 (λ d m n v. (number (pos 2) ⊗ v ⊕ number (pos 1)) ⊗ ((m ⊕ n) ⊗ d) ≗
      d ⊗ ((m ⊕ n) ⊗ v) ⊕ d ⊗ ((m ⊕ n) ⊗ v) ⊕ (m ⊕ n) ⊗ d) tt d m n v in
      omega linear

  -- the mixture of the numbers rounds to the mixture of the whole numbers, if that is whole
  pub mixtures_round : (v : ℤ) → pos 0 <ℤ d → (m +ℤ n) *ℤ v ≡ m *ℤ v1 +ℤ n *ℤ v2 →
      RoundsTo v (m *ℤ x1 +ℤ n *ℤ x2) ((m +ℤ n) *ℤ d)
  mixtures_round v some is = record { low = at_least v some (omega linear); high = at_most v some (omega linear) }

-- a number times its weight rounds as it does
pub weighed_rounds : (k v x d : ℤ) → pos 0 <ℤ k → RoundsTo v x d → RoundsTo v (k *ℤ x) (k *ℤ d)
weighed_rounds k v x d some at =
    let twice = solve 2 (λ k x. number (pos 2) ⊗ (k ⊗ x) ≗ k ⊗ (number (pos 2) ⊗ x)) tt k x in
    record {
      low =
          let own = mul-le k ((pos 2 *ℤ v -ℤ pos 1) *ℤ d) (pos 2 *ℤ x) (omega linear) at.low in
          let bound = solve 3 (λ k v d. (number (pos 2) ⊗ v ⊖ number (pos 1)) ⊗ (k ⊗ d) ≗
          k ⊗ ((number (pos 2) ⊗ v ⊖ number (pos 1)) ⊗ d)) tt k v d in
          omega linear;
      high =
          let own = mul-lt k (pos 2 *ℤ x) ((pos 2 *ℤ v +ℤ pos 1) *ℤ d) some at.high in
          let bound = solve 3 (λ k v d. (number (pos 2) ⊗ v ⊕ number (pos 1)) ⊗ (k ⊗ d) ≗
          k ⊗ ((number (pos 2) ⊗ v ⊕ number (pos 1)) ⊗ d)) tt k v d in
          omega linear;
    }

-- twice one number is less than twice the other where it is less
twice-lt : (a b : ℤ) → a <ℤ b → (pos 2 *ℤ a) <ℤ (pos 2 *ℤ b)
twice-lt a b lt = mul-lt (pos 2) a b (record { lt = tt }) lt

-- if the order changes, the mixture rounds to the number's whole number
pub changed_order_rounds : (d m n x x1 x2 v v1 v2 : ℤ) → pos 0 <ℤ d → AreWeights m n → RoundsTo v x d →
    RoundsTo v1 x1 d → RoundsTo v2 x2 d → OrderChanges m n x x1 x2 v v1 v2 →
    RoundsTo v (m *ℤ x1 +ℤ n *ℤ x2) ((m +ℤ n) *ℤ d)
changed_order_rounds d m n x x1 x2 v v1 v2 some weights at at1 at2 (inl (less, le)) = record {
  low =
      let own = (weighed_rounds (m +ℤ n) v x d weights.some at).low in
      let order = twice-lt ((m +ℤ n) *ℤ x) (m *ℤ x1 +ℤ n *ℤ x2) less in
      omega linear;
  high = at_most d m n x1 x2 v1 v2 weights at1 at2 v some le;
}
changed_order_rounds d m n x x1 x2 v v1 v2 some weights at at1 at2 (inr (less, le)) = record {
  low = at_least d m n x1 x2 v1 v2 weights at1 at2 v some le;
  high =
      let own = (weighed_rounds (m +ℤ n) v x d weights.some at).high in
      let order = twice-lt (m *ℤ x1 +ℤ n *ℤ x2) ((m +ℤ n) *ℤ x) less in
      omega linear;
}
