-- Edges at the front of a list that meet each later edge in ends alone. None leads another edge, or is led by one, but
-- through ends. So none of their meetings need be gathered.
use Rattle.std.proofs.Common.{◌≡◌, ⊎_elim, inl, inr, ℕ, ◌<◌, ◌≤◌, List, [], All, sym, subst, arith}
use Rattle.std.proofs.lemmas.Bool.{cases_lt}
use Rattle.std.proofs.Math.Nat.{eq-or-lt_of_le}
use Rattle.overlay_geom.specs.Edges.{CountedEdge}
use Rattle.overlay_order.specs.Content.{IsHeld}
use Rattle.overlay_pairs.specs.Places.{AreSettledBefore, IsAt}
use Rattle.overlay_pairs.specs.Settle.{AreSettled}
use Rattle.overlay_arrange.specs.Meetings.{AreGathered, HasBefore}
use Rattle.overlay_arrange.proofs.GatheredMeetings.{gathered_of_more, leads_itself, none_gathered}
use Rattle.overlay_arrange.proofs.LedToEnds.{leads_to_ends, led_to_ends, LeadsNowhere}

module _ (es : List CountedEdge) where
  -- the pairs of the front need no meetings
  pub front_gathered : (limit n : ℕ) → All (IsHeld limit) es → AreSettledBefore es n → AreGathered es (HasBefore n) []
  front_gathered limit n held front = gathered_of_more es (none_gathered es)
      (λ k l g h at_g at_h pair. inr (by k l g h at_g at_h pair))
    where
      holds : (k : ℕ) (g : CountedEdge) → IsAt es k g → IsHeld limit g
      holds k g at = subst (IsHeld limit) at.1 (held k g at.0)

      meet : (k l : ℕ) (g h : CountedEdge) → IsAt es k g → IsAt es l h → HasBefore n k l → k < l →
          AreSettled g h
      meet k l g h at_g at_h pair less =
          front.meet k (⊎_elim (λ before. before) (λ (after : l < n). omega (arith, less, after)) pair) l g h less
          at_h.0 at_g at_h

      by : (k l : ℕ) (g h : CountedEdge) → IsAt es k g → IsAt es l h → HasBefore n k l → LeadsNowhere g h
      by k l g h at_g at_h pair = ⊎_elim
          (λ (less : k < l). leads_to_ends limit g h (holds k g at_g) (holds l h at_h)
          (meet k l g h at_g at_h pair less))
          (λ (from : l ≤ k). ⊎_elim (λ (same : l ≡ k). leads_itself es k l g h at_g at_h (sym same))
          (λ (less : l < k). led_to_ends limit h g (holds l h at_h) (holds k g at_g)
          (meet l k h g at_h at_g (exchanged pair) less))
          (eq-or-lt_of_le from)) (cases_lt k l)
        where
          exchanged : HasBefore n k l → HasBefore n l k
          exchanged (inl before) = inr before
          exchanged (inr after) = inl after
