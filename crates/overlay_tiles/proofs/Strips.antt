-- Numbers that lie on one side of each grid place lie in one strip of the grid.
use Rattle.std.proofs.Common.{◌≡◌, ◌⊎◌, inl, inr, ⊎_elim, ℕ, zero, suc, ℤ, pos, negsuc, ◌+ℤ◌, ◌-ℤ◌, ◌*ℤ◌, ◌<ℤ◌, ◌≤ℤ◌}
use Rattle.std.proofs.Common.{List, ◌∷◌, All, refl, subst}
use Rattle.std.proofs.lemmas.Int.{by_lt_z}
use Rattle.std.proofs.lemmas.List.Elements.{All-head, All-weaker}
use Rattle.overlay_geom.proofs.Identities.{solve, number, ◌⊕◌, ◌⊗◌, ◌⊖◌, ◌≗◌}
use Rattle.overlay_geom.proofs.Signs.{linear}
use Rattle.overlay_tiles.specs.Cells.{IsInStrip}
use Rattle.overlay_tiles.specs.Grids.{IsGridMultiple}
use Rattle.overlay_tiles.specs.Spans.{Span, IsIn}

-- the last multiple of the step up to the number
pub record IsFloor (w z : ℤ) : Type 0 where
  pub multiple : ℤ
  pub low : (multiple *ℤ w) ≤ℤ z
  pub high : z <ℤ ((multiple +ℤ pos 1) *ℤ w)

module _ (w : ℤ) (some : pos 0 <ℤ w) where
  next_is : (m : ℤ) → (m +ℤ pos 1) *ℤ w ≡ m *ℤ w +ℤ w
  next_is m = solve 2 (λ m w. (m ⊕ number (pos 1)) ⊗ w ≗ m ⊗ w ⊕ w) tt m w

  before_is : (m : ℤ) → (m -ℤ pos 1) *ℤ w ≡ m *ℤ w -ℤ w
  before_is m = solve 2 (λ m w. (m ⊖ number (pos 1)) ⊗ w ≗ m ⊗ w ⊖ w) tt m w

  -- of the next number, and of the one before
  floor_up : (z : ℤ) → IsFloor w z → IsFloor w (z +ℤ pos 1)
  floor_up z f =
      let low = f.low in
      let high = f.high in
      by_lt_z (z +ℤ pos 1) ((f.multiple +ℤ pos 1) *ℤ w)
      (λ less. record { multiple = f.multiple; low = omega linear; high = less })
      (λ ge. let next = next_is (f.multiple +ℤ pos 1) in
      record { multiple = f.multiple +ℤ pos 1; low = ge; high = omega linear })

  floor_down : (z : ℤ) → IsFloor w z → IsFloor w (z -ℤ pos 1)
  floor_down z f =
      let low = f.low in
      let high = f.high in
      by_lt_z (z -ℤ pos 1) (f.multiple *ℤ w)
      (λ less. let before = before_is f.multiple in
      let again = next_is (f.multiple -ℤ pos 1) in
      record { multiple = f.multiple -ℤ pos 1; low = omega linear; high = omega linear })
      (λ ge. record { multiple = f.multiple; low = ge; high = omega linear })

  floor_from : (n : ℕ) → IsFloor w (pos n)
  floor_from zero = let next = solve 1 (λ w. (number (pos 0) ⊕ number (pos 1)) ⊗ w ≗ w) tt w in
      let none = solve 1 (λ w. number (pos 0) ⊗ w ≗ number (pos 0)) tt w in
      record { multiple = pos 0; low = omega linear; high = omega linear }
  floor_from (suc n) = subst (IsFloor w) (omega linear) (floor_up (pos n) (floor_from n))

  floor_below : (n : ℕ) → IsFloor w (negsuc n)
  floor_below zero = subst (IsFloor w) (omega linear) (floor_down (pos 0) (floor_from 0))
  floor_below (suc n) = subst (IsFloor w) (omega linear) (floor_down (negsuc n) (floor_below n))

  pub floor : (z : ℤ) → IsFloor w z
  floor (pos n) = floor_from n
  floor (negsuc n) = floor_below n

  -- each number lies on one side of each place, and within the span
  module _ {X : Type 0} (f : X → ℤ) (s : Span) (x : X) (xs : List X) (within : All (λ y. IsIn s (f y)) (x ∷ xs))
      (sides : (c : ℤ) → IsGridMultiple w s c → All (λ y. c ≤ℤ f y) (x ∷ xs) ⊎ All (λ y. f y ≤ℤ c) (x ∷ xs)) where
    -- so on one side of each multiple
    side_of : (m : ℤ) → All (λ y. (m *ℤ w) ≤ℤ f y) (x ∷ xs) ⊎ All (λ y. f y ≤ℤ (m *ℤ w)) (x ∷ xs)
    side_of m = by_lt_z s.least (m *ℤ w)
        (λ above. by_lt_z (m *ℤ w) s.greatest
        (λ below. sides (m *ℤ w) (record { multiple = m; is = refl; above = above; below = below }))
        (λ ge. inr (All-weaker (λ y. IsIn s (f y)) (λ y. f y ≤ℤ (m *ℤ w))
        (λ y here. let high = here.high in omega linear)
        (x ∷ xs) within)))
        (λ le. inl (All-weaker (λ y. IsIn s (f y)) (λ y. (m *ℤ w) ≤ℤ f y) (λ y here. let low = here.low in omega linear)
        (x ∷ xs) within))

    -- all of them in the strip
    in_strip : (m : ℤ) → All (λ y. (m *ℤ w) ≤ℤ f y) (x ∷ xs) → All (λ y. f y ≤ℤ ((m +ℤ pos 1) *ℤ w)) (x ∷ xs) →
        All (λ y. IsInStrip w m (f y) (pos 1)) (x ∷ xs)
    in_strip m low high k d lt =
        let from = low k d lt in
        let to = high k d lt in
        let one = solve 2 (λ m w. m ⊗ w ⊗ number (pos 1) ≗ m ⊗ w) tt m w in
        let next = solve 2 (λ m w. (m ⊕ number (pos 1)) ⊗ w ⊗ number (pos 1) ≗ (m ⊕ number (pos 1)) ⊗ w) tt m w in
        record { low = omega linear; high = omega linear }

    pub lie_in_one_strip : (m : ℤ) × All (λ y. IsInStrip w m (f y) (pos 1)) (x ∷ xs)
    lie_in_one_strip = ⊎_elim
        (λ above. absurd (let last = floor (f x) in let high = last.high in
        let here = All-head (λ y. ((last.multiple +ℤ pos 1) *ℤ w) ≤ℤ f y) x xs above in omega linear))
        upper (side_of ((floor (f x)).multiple +ℤ pos 1))
      where
        m : ℤ
        m = (floor (f x)).multiple

        -- where all lie up to the next multiple
        upper : All (λ y. f y ≤ℤ ((m +ℤ pos 1) *ℤ w)) (x ∷ xs) → (m : ℤ) × All (λ y. IsInStrip w m (f y) (pos 1))
            (x ∷ xs)
        upper below = ⊎_elim (λ above. (m, in_strip m above below)) (λ on_it. lower on_it (side_of (m -ℤ pos 1)))
            (side_of m)
          where
            lower : All (λ y. f y ≤ℤ (m *ℤ w)) (x ∷ xs) →
                All (λ y. ((m -ℤ pos 1) *ℤ w) ≤ℤ f y) (x ∷ xs) ⊎ All (λ y. f y ≤ℤ ((m -ℤ pos 1) *ℤ w)) (x ∷ xs) →
                (m : ℤ) × All (λ y. IsInStrip w m (f y) (pos 1)) (x ∷ xs)
            lower on_it (inl above) = (
              m -ℤ pos 1,
              in_strip (m -ℤ pos 1) above
                  (subst (λ (k : ℤ). All (λ y. f y ≤ℤ (k *ℤ w)) (x ∷ xs)) (omega linear) on_it),
            )
            lower on_it (inr under) =
                let last = floor (f x) in
                let low = last.low in
                let before = before_is m in
                let here = All-head (λ y. f y ≤ℤ ((m -ℤ pos 1) *ℤ w)) x xs under in
                absurd (omega linear)
