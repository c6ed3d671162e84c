-- Steps of which each is beyond a line, or of which none is, lie on one side of it.
use Rattle.std.proofs.Common.{◌⊎◌, inl, inr, ℤ, ◌≤ℤ◌, List, Contains}
use Rattle.std.proofs.lemmas.Int.{by_lt_z}
use Rattle.overlay_geom.specs.Plane.{Step}
use Rattle.overlay_geom.proofs.Signs.{linear}
use Rattle.overlay_plane.specs.Turn.{Hand, IsNextStep, IsOrbit}
use Rattle.overlay_plane.proofs.OrbitSteps.{all_round}
use Rattle.overlay_tiles.proofs.Axes.{Axis, across, along}
use Rattle.overlay_tiles.proofs.StaysBeyond.{StaysBeyond}

module _ (axis : Axis) (c : ℤ) where
  -- a step stays beyond the line, or it does not
  pub stays_or_not : (s : Step) → StaysBeyond axis c s ⊎ ¬ (StaysBeyond axis c s)
  stays_or_not s = by_lt_z (across axis s.from) c
      (λ less. inr (λ h. let from = h.from in absurd (omega linear)))
      (λ from. by_lt_z (across axis s.to) c (λ less. inr (λ h. let to = h.to in absurd (omega linear)))
      (λ to. by_lt_z (along axis s.from) (along axis s.to)
      (λ less. inl (record { from = from; to = to; ahead = λ a b. less }))
      (λ back. by_lt_z c (across axis s.from)
      (λ more. inl (record { from = from; to = to; ahead = λ a b. absurd (omega linear) }))
      (λ at. by_lt_z c (across axis s.to)
      (λ more. inl (record { from = from; to = to; ahead = λ a b. absurd (omega linear) }))
      (λ at_to. inr (λ h. let less = h.ahead (omega linear) (omega linear) in absurd (omega linear)))))))

  -- a step with both ends beyond the line or on it, or neither beyond it, that does not stay beyond it, is before it or
  -- on it
  pub before_line : (s : Step) → ((c ≤ℤ across axis s.from) × (c ≤ℤ across axis s.to))
      ⊎ ((across axis s.from ≤ℤ c) × (across axis s.to ≤ℤ c)) → ¬ (StaysBeyond axis c s) →
      (across axis s.from ≤ℤ c) × (across axis s.to ≤ℤ c)
  before_line s (inr before) not = before
  before_line s (inl (from, to)) not = (
    by_lt_z c (across axis s.from)
        (λ more. absurd (not (record { from = from; to = to; ahead = λ a b. absurd (omega linear) }))) (λ le. le),
    by_lt_z c (across axis s.to)
        (λ more. absurd (not (record { from = from; to = to; ahead = λ a b. absurd (omega linear) }))) (λ le. le),
  )

  -- along an orbit of steps from each of which that stays beyond the line the hand leads to another one, all do, or
  -- none
  module _ (steps : List Step) (hand : Hand)
      (next : (s t : Step) → Contains steps s → IsNextStep steps hand s t → StaysBeyond axis c s → StaysBeyond axis c t)
    where
      pub along_orbit : (walk : List Step) → IsOrbit steps hand walk → (s t : Step) → Contains walk s →
          Contains walk t →
          StaysBeyond axis c s → StaysBeyond axis c t
      along_orbit walk orbit s t at_s at_t stays = all_round steps hand walk orbit (StaysBeyond axis c) next s t at_s
          at_t
          stays
