-- Sums round a closed walk. If the end of each step and the start of the next have equal numbers, starts minus ends sum
-- to 0.
use Rattle.std.proofs.Common.{◌≡◌, ℕ, suc, ◌<◌, ℤ, pos, ◌-ℤ◌, List, [], ◌∷◌, length, get_or, refl, sym, ap, ◌∙◌, arith}
use lib.IntN.{+ℤ_idr}
use Rattle.overlay_geom.specs.Plane.{Step, total}
use Rattle.overlay_geom.proofs.Signs.{linear}
use Rattle.overlay_plane.specs.Turn.{step_round, no_step}
use Rattle.overlay_plane.proofs.ItemsRound.{item_round-here, item_round-whole}

module _ (begins ends : Step → ℤ) where
  -- each step but the first begins with the end number of the step before
  abbrev AreLinked : List Step → Type 0
  AreLinked ss = (k : ℕ) → suc k < length ss → begins (get_or ss (suc k) no_step) ≡ ends (get_or ss k no_step)

  -- the sum is the first start number minus the last end number
  linked_total : (s : Step) (ss : List Step) → AreLinked (s ∷ ss) →
      total (λ t. begins t -ℤ ends t) (s ∷ ss) ≡ begins s -ℤ ends (get_or (s ∷ ss) (length ss) no_step)
  linked_total s [] linked = +ℤ_idr (begins s -ℤ ends s)
  linked_total s (t ∷ ts) linked =
      let rest = linked_total t ts (λ k h. linked (suc k) (omega arith)) in
      let meet : begins t ≡ ends s = linked 0 (omega arith) in
      omega linear

  -- the sum round a walk is 0
  pub total_round : (walk : List Step) → ((k : ℕ) → begins (step_round walk (suc k)) ≡ ends (step_round walk k)) →
      total (λ t. begins t -ℤ ends t) walk ≡ pos 0
  total_round [] linked = refl
  total_round (s ∷ ss) round =
      let along = linked_total s ss linked in
      let closed = back in
      omega linear
    where
      linked : AreLinked (s ∷ ss)
      linked k h = sym (ap begins (item_round-here (s ∷ ss) no_step (suc k) h)) ∙ round k
          ∙ ap ends (item_round-here (s ∷ ss) no_step k (omega arith))

      back : begins s ≡ ends (get_or (s ∷ ss) (length ss) no_step)
      back = sym (ap begins (item_round-here (s ∷ ss) no_step 0 (omega arith)))
          ∙ sym (ap begins (item_round-whole (s ∷ ss) no_step))
          ∙ round (length ss)
          ∙ ap ends (item_round-here (s ∷ ss) no_step (length ss) (omega arith))
