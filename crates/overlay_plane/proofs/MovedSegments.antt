-- Segments whose ends are moved along their levels: where they meet afterwards, they meet before, or an end of one
-- changes its side of the other.
use Rattle.std.proofs.Common.{◌≡◌, ◌⊎◌, inl, inr, ⊎_elim, ℤ, pos, ◌+ℤ◌, ◌-ℤ◌, ◌*ℤ◌, ◌<ℤ◌, ◌∙◌}
use Rattle.std.proofs.lemmas.Int.{by_lt_z}
use Rattle.overlay_geom.proofs.Identities.{solve, number, ◌⊕◌, ◌⊗◌, ◌⊖◌, ◌≗◌}
use Rattle.overlay_geom.proofs.Signs.{linear, by_sign}
use Rattle.overlay_plane.proofs.ChangedSides.{SomeEndChangesSides, end_changes_sides}
use Rattle.overlay_plane.proofs.CommonLevels.{OfEnds, excess, HaveOneLevel, Meet, mixed_weights, excess_mixed}
use Rattle.overlay_plane.proofs.CommonLevels.{mixed_level}
use Rattle.overlay_plane.proofs.LostSigns.{mix_or_lose_sign}
use Rattle.overlay_plane.proofs.WaysToEnds.{SomeIsZero, way, way_back, Reached, reached}

-- the segments with the levels z meet once the places of their ends are moved from w to v
module _ (z w v u : OfEnds) (have : HaveOneLevel z u) (meet : excess v u ≡ pos 0) where
  -- where an end stands alone at the place in which they meet, it was there before, or changes sides
  at_an_end : SomeIsZero u → Meet z w ⊎ SomeEndChangesSides z w v
  at_an_end none = by_sign (excess w u)
      (λ less. inr (end_changes_sides z w v u have (inr (less, omega linear)) none))
      (λ zero. inl (u, have, zero))
      (λ more. inr (end_changes_sides z w v u have (inl (more, omega linear)) none))

  -- where one goes from this place along both segments, to an end onward and to one back
  module _ (a b : ℤ) (there : Reached z u a b) (back : Reached z u (pos 0 -ℤ a) (pos 0 -ℤ b)) where
    -- the weights at these ends
    abbrev onward_weights : OfEnds
    onward_weights = mixed_weights there.x u there.y (way a b)

    abbrev back_weights : OfEnds
    back_weights = mixed_weights back.x u back.y (way (pos 0 -ℤ a) (pos 0 -ℤ b))

    -- moved, the two excesses mix to 0
    moved_zero : back.y *ℤ excess v onward_weights +ℤ there.y *ℤ excess v back_weights ≡ pos 0
    moved_zero =
        let one = excess_mixed v u (way a b) there.x there.y in
        let two = excess_mixed v u (way (pos 0 -ℤ a) (pos 0 -ℤ b)) back.x back.y in
        (λ i. back.y *ℤ one i +ℤ there.y *ℤ two i)
        ∙ (λ i. back.y *ℤ (there.x *ℤ meet i +ℤ there.y *ℤ excess v (way a b))
        +ℤ there.y *ℤ (back.x *ℤ meet i +ℤ back.y *ℤ way_back v a b i))
        ∙ solve 5 (λ x y s t g.
        t ⊗ (x ⊗ number (pos 0) ⊕ y ⊗ g) ⊕ y ⊗ (s ⊗ number (pos 0) ⊕ t ⊗ (number (pos 0) ⊖ g)) ≗ number (pos 0))
        tt there.x there.y back.x back.y (excess v (way a b))

    -- the segments meet between before, or one of the two ends changes sides
    between_ends : Meet z w ⊎ SomeEndChangesSides z w v
    between_ends = ⊎_elim
        (λ mix. inl (
          mixed_weights mix.i onward_weights mix.j back_weights,
          mixed_level z onward_weights back_weights mix.i mix.j mix.i_nonneg mix.j_nonneg
              mix.some there.one_level back.one_level,
          excess_mixed w onward_weights back_weights mix.i mix.j ∙ mix.is_zero,
        ))
        (λ lost. inr (⊎_elim
        (λ first. end_changes_sides z w v onward_weights there.one_level first there.at)
        (λ second. end_changes_sides z w v back_weights back.one_level second back.at) lost))
        (mix_or_lose_sign back.y there.y (excess w onward_weights) (excess w back_weights)
        (excess v onward_weights) (excess v back_weights) back.y_pos there.y_pos moved_zero)

  -- where no end stands alone there
  module _ (p : pos 0 <ℤ u.p) (q : pos 0 <ℤ u.q) (k : pos 0 <ℤ u.k) (l : pos 0 <ℤ u.l) where
    -- along a way that stays at the level, unless it leads nowhere
    along : (a b : ℤ) → excess z (way a b) ≡ pos 0 → (a ≡ pos 0 → b ≡ pos 0 → ⊥) →
        Meet z w ⊎ SomeEndChangesSides z w v
    along a b same moving = between_ends a b
        (reached z u a b have p q k l same moving)
        (reached z u (pos 0 -ℤ a) (pos 0 -ℤ b) have p q k l
        (let turn = way_back z a b in omega linear) (λ e f. moving (omega linear) (omega linear)))

    -- along each segment by the height of the other, and where both are level along the first
    within_both : Meet z w ⊎ SomeEndChangesSides z w v
    within_both = by_sign (z.q -ℤ z.p) (λ less. slanted (λ e f. omega linear))
        (λ zero. by_sign (z.l -ℤ z.k) (λ less. slanted (λ e f. omega linear)) (λ other. level zero)
        (λ more. slanted (λ e f. omega linear)))
        (λ more. slanted (λ e f. omega linear))
      where
        slanted : (z.l -ℤ z.k ≡ pos 0 → z.q -ℤ z.p ≡ pos 0 → ⊥) → Meet z w ⊎ SomeEndChangesSides z w v
        slanted moving = along (z.l -ℤ z.k) (z.q -ℤ z.p)
            (solve 4 (λ p q k l. ((number (pos 0) ⊖ (l ⊖ k)) ⊗ p ⊕ (l ⊖ k) ⊗ q) ⊖
            ((number (pos 0) ⊖ (q ⊖ p)) ⊗ k ⊕ (q ⊖ p) ⊗ l) ≗ number (pos 0)) tt z.p z.q z.k z.l) moving

        level : z.q -ℤ z.p ≡ pos 0 → Meet z w ⊎ SomeEndChangesSides z w v
        level zero = along (pos 1) (pos 0)
            (let sum = solve 4 (λ p q k l. ((number (pos 0) ⊖ number (pos 1)) ⊗ p ⊕ number (pos 1) ⊗ q) ⊖
            ((number (pos 0) ⊖ number (pos 0)) ⊗ k ⊕ number (pos 0) ⊗ l) ≗ q ⊖ p) tt z.p z.q z.k z.l in
            omega linear) (λ e f. omega linear)

  -- segments that meet after they are moved meet before, or an end changes sides
  pub meet_or_change_sides : Meet z w ⊎ SomeEndChangesSides z w v
  meet_or_change_sides = by_lt_z (pos 0) u.p
      (λ p. by_lt_z (pos 0) u.q
      (λ q. by_lt_z (pos 0) u.k
      (λ k. by_lt_z (pos 0) u.l
      (λ l. within_both p q k l)
      (λ le. at_an_end (inr (inr (let nonneg = have.l in omega linear)))))
      (λ le. at_an_end (inr (inl (let nonneg = have.k in omega linear)))))
      (λ le. at_an_end (inl (inr (let nonneg = have.q in omega linear)))))
      (λ le. at_an_end (inl (inl (let nonneg = have.p in omega linear))))
