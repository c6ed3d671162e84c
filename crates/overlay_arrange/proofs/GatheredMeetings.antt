-- A loop over pairs of ascending edges that gathers the points through which they lead each other: the points that a
-- pair adds, and the pairs that may be left out.
use Rattle.std.proofs.Common.{◌≡◌, ◌⊎◌, ⊎_elim, inl, inr, ℕ, ◌+◌, ◌<◌, ◌≤◌, List, [], ◌∷◌, ◌++◌, All, Contains, length}
use Rattle.std.proofs.Common.{sym, ◌∙◌, subst, arith}
use Rattle.std.specs.List.{flat_map}
use Rattle.std.proofs.lemmas.Bool.{cases_lt}
use Rattle.std.proofs.lemmas.List.Elements.{Contains-push_cases}
use Rattle.std.proofs.Math.Nat.{eq-or-lt_of_le}
use Rattle.overlay_geom.specs.Plane.{Point}
use Rattle.overlay_geom.specs.Edges.{CountedEdge, ends_of}
use Rattle.overlay_plane.specs.CutPoints.{comes_first, cut_points, met_at}
use Rattle.overlay_plane.proofs.CutChains.{met_at_itself}
use Rattle.overlay_plane.proofs.Entries.{Contains-flat_map}
use Rattle.overlay_plane.proofs.InOrderLists.{Contains-put_in_order}
use Rattle.overlay_order.specs.Content.{IsHeld}
use Rattle.overlay_pairs.specs.Places.{IsAt}
use Rattle.overlay_pairs.specs.Near.{AreNear}
use Rattle.overlay_pairs.proofs.Entries.{one_entry}
use Rattle.overlay_arrange.specs.Cut.{IsEndOf}
use Rattle.overlay_arrange.specs.Meetings.{AddsBoth, AreGathered, AreMeetings, HasBefore, IsEndOrMet}
use Rattle.overlay_arrange.specs.Meetings.{Meeting}
use Rattle.overlay_arrange.proofs.LedToEnds.{leads_to_ends, led_to_ends, IsLedBy, LeadsNowhere}

-- a place before i + 1 is i, or comes before i
pub at_or_before : (k i : ℕ) → k < i + 1 → (k ≡ i) ⊎ (k < i)
at_or_before k i lt = eq-or-lt_of_le (let le : k ≤ i = omega (arith, lt) in le)

-- a place of the pair comes before place i; or one is i, and the other is among the places js
abbrev pub IsLookedAt : ℕ → List ℕ → ℕ → ℕ → Type 0
IsLookedAt i js k l = HasBefore i k l ⊎ (((k ≡ i) × Contains js l) ⊎ ((l ≡ i) × Contains js k))

module _ (es : List CountedEdge) where
  -- at first no pair has been looked at
  pub none_gathered : AreGathered es (HasBefore 0) []
  none_gathered = record {
    led = λ m at. absurd (omega (arith, at.1));
    all = λ i j e f at_e at_f before v at. ⊎_elim (λ (lt : i < 0). absurd (omega (arith, lt)))
        (λ (lt : j < 0). absurd (omega (arith, lt))) before;
  }

  -- meetings gathered for some pairs are gathered for more, if the other pairs lead each other only to their ends or
  -- were tested
  pub gathered_of_more : {Some More : ℕ → ℕ → Type 0} {ms : List Meeting} → AreGathered es Some ms →
      ((k l : ℕ) (g h : CountedEdge) → IsAt es k g → IsAt es l h → More k l → Some k l ⊎ LeadsNowhere g h) →
      AreGathered es More ms
  gathered_of_more gathered more = record {
    led = gathered.led;
    all = λ k l g h at_g at_h pair v at. ⊎_elim (λ some. gathered.all k l g h at_g at_h some v at)
        (λ ends. inl (ends v at)) (more k l g h at_g at_h pair);
  }

  -- an edge leads itself nowhere
  pub leads_itself : (k l : ℕ) (g h : CountedEdge) → IsAt es k g → IsAt es l h → k ≡ l → LeadsNowhere g h
  leads_itself k l g h at_g at_h same v at =
      let is : h ≡ g = one_entry es k h g (subst (λ n. IsAt es n h) (sym same) at_h) at_g in
      met_at_itself (ends_of g) v (subst (λ u. Contains (met_at (ends_of g) (ends_of u)) v) is at)

  module _ (i : ℕ) (e : CountedEdge) (at_e : IsAt es i e) where
    -- at first the pairs with e have not been looked at
    pub begun : {ms : List Meeting} → AreGathered es (HasBefore i) ms → AreGathered es (IsLookedAt i []) ms
    begun gathered = gathered_of_more gathered (λ k l g h at_g at_h pair. inl (by k l pair))
      where
        by : (k l : ℕ) → IsLookedAt i [] k l → HasBefore i k l
        by k l (inl before) = before
        by k l (inr (inl (_, at))) = absurd (omega (arith, at.1))
        by k l (inr (inr (_, at))) = absurd (omega (arith, at.1))

    -- the pair of e and the edge at place j is looked at
    module _ (js : List ℕ) (j : ℕ) (f : CountedEdge) (at_f : IsAt es j f) {old new : List Meeting}
        (gathered : AreGathered es (IsLookedAt i js) old) (adds : AddsBoth i e j f old new) where
      -- a point through which the second edge leads the first is one of its computed points
      computed : (k l : ℕ) (g h : CountedEdge) → IsAt es k g → IsAt es l h → (m : Meeting) → m.place ≡ k →
          Contains (met_at (ends_of g) (ends_of h)) m.point →
          (d : CountedEdge) × IsAt es m.place d × Contains (cut_points es d) m.point
      computed k l g h at_g at_h m is at = (
        g,
        subst (λ n. IsAt es n g) (sym is) at_g,
        Contains-put_in_order (comes_first (ends_of g)) (flat_map (λ u. met_at (ends_of g) (ends_of u)) es) m.point
            (Contains-flat_map (λ u. met_at (ends_of g) (ends_of u)) es h m.point (l, at_h.0, at_h.1) at),
      )

      -- earlier meetings are kept
      kept : (k : ℕ) (v : Point) → Contains old (record { place = k; point = v }) →
          Contains new (record { place = k; point = v })
      kept k v at = adds.other.kept (record { place = k; point = v })
          (adds.one.kept (record { place = k; point = v }) at)

      -- the two edges lead each other through the added points
      forth : (k l : ℕ) (g h : CountedEdge) → IsAt es k g → IsAt es l h → k ≡ i → l ≡ j →
          (v : Point) → IsLedBy g h v → IsEndOrMet new k g v
      forth k l g h at_g at_h k_is l_is v at =
          let g_is : e ≡ g = one_entry es k e g (subst (λ n. IsAt es n e) (sym k_is) at_e) at_g in
          let h_is : f ≡ h = one_entry es l f h (subst (λ n. IsAt es n f) (sym l_is) at_f) at_h in
          ⊎_elim (λ end. inl (subst (λ u. IsEndOf u v) g_is end))
          (λ there. inr (subst (λ n. Contains new (record { place = n; point = v })) (sym k_is)
          (adds.other.kept (record { place = i; point = v }) there)))
          (adds.one.all v (rw (g_is, h_is) at))

      back : (k l : ℕ) (g h : CountedEdge) → IsAt es k g → IsAt es l h → k ≡ j → l ≡ i →
          (v : Point) → IsLedBy g h v → IsEndOrMet new k g v
      back k l g h at_g at_h k_is l_is v at =
          let g_is : f ≡ g = one_entry es k f g (subst (λ n. IsAt es n f) (sym k_is) at_f) at_g in
          let h_is : e ≡ h = one_entry es l e h (subst (λ n. IsAt es n e) (sym l_is) at_e) at_h in
          ⊎_elim (λ end. inl (subst (λ u. IsEndOf u v) g_is end))
          (λ there. inr (subst (λ n. Contains new (record { place = n; point = v })) (sym k_is) there))
          (adds.other.all v (rw (g_is, h_is) at))

      pub pair_gathered : AreGathered es (IsLookedAt i (js ++ j ∷ [])) new
      pair_gathered = record {
        led = λ m at. ⊎_elim
            (λ before. ⊎_elim (λ there. gathered.led m there) (λ led. computed i j e f at_e at_f m led.0 led.1)
            (adds.one.led m before))
            (λ led. computed j i f e at_f at_e m led.0 led.1) (adds.other.led m at);
        all = λ k l g h at_g at_h pair v at. by k l g h at_g at_h pair v at;
      }
        where
          earlier : (k l : ℕ) (g h : CountedEdge) → IsAt es k g → IsAt es l h → IsLookedAt i js k l → (v : Point) →
              IsLedBy g h v →
              IsEndOrMet new k g v
          earlier k l g h at_g at_h pair v at = ⊎_elim (λ end. inl end) (λ there. inr (kept k v there))
              (gathered.all k l g h at_g at_h pair v at)

          by : (k l : ℕ) (g h : CountedEdge) → IsAt es k g → IsAt es l h → IsLookedAt i (js ++ j ∷ []) k l →
              (v : Point) → IsLedBy g h v →
              IsEndOrMet new k g v
          by k l g h at_g at_h (inl before) v at = earlier k l g h at_g at_h (inl before) v at
          by k l g h at_g at_h (inr (inl (k_is, has))) v at = ⊎_elim
              (λ (so_far : Contains js l). earlier k l g h at_g at_h (inr (inl (k_is, so_far))) v at)
              (λ (is : j ≡ l). forth k l g h at_g at_h k_is (sym is) v at) (Contains-push_cases js j l has)
          by k l g h at_g at_h (inr (inr (l_is, has))) v at = ⊎_elim
              (λ (so_far : Contains js k). earlier k l g h at_g at_h (inr (inr (l_is, so_far))) v at)
              (λ (is : j ≡ k). back k l g h at_g at_h (sym is) l_is v at) (Contains-push_cases js j k has)

    -- where all edges near e have been looked at, the pairs with e have: the other later ones lead it to its ends
    -- alone, and it them; and so an edge leads itself
    pub near_looked_at : (limit : ℕ) (js : List ℕ) {ms : List Meeting} → All (IsHeld limit) es → AreNear es i js →
        AreGathered es (IsLookedAt i js) ms → AreGathered es (HasBefore (i + 1)) ms
    near_looked_at limit js held near gathered = gathered_of_more gathered
        (λ k l g h at_g at_h pair. by k l g h at_g at_h pair)
      where
        holds : (k : ℕ) (g : CountedEdge) → IsAt es k g → IsHeld limit g
        holds k g at = subst (IsHeld limit) at.1 (held k g at.0)

        later : (k l : ℕ) (g h : CountedEdge) → IsAt es k g → IsAt es l h → k ≡ i → i < l →
            Contains js l ⊎ (LeadsNowhere g h × LeadsNowhere h g)
        later k l g h at_g at_h is less = ⊎_elim (λ has. inl has)
            (λ settled. inr (
              leads_to_ends limit g h (holds k g at_g) (holds l h at_h) settled,
              led_to_ends limit g h (holds k g at_g) (holds l h at_h) settled,
            ))
            ((near g (subst (λ n. IsAt es n g) is at_g)).all l h (omega (arith, less)) at_h)

        by : (k l : ℕ) (g h : CountedEdge) → IsAt es k g → IsAt es l h → HasBefore (i + 1) k l →
            IsLookedAt i js k l ⊎ LeadsNowhere g h
        by k l g h at_g at_h (inl lt) = ⊎_elim
            (λ (is : k ≡ i). ⊎_elim (λ (less : l < i). inl (inl (inr less)))
            (λ (from : i ≤ l). ⊎_elim (λ (same : i ≡ l). inr (leads_itself k l g h at_g at_h (is ∙ same)))
            (λ (less : i < l). ⊎_elim (λ has. inl (inr (inl (is, has)))) (λ none. inr none.0)
            (later k l g h at_g at_h is less)) (eq-or-lt_of_le from)) (cases_lt l i))
            (λ (less : k < i). inl (inl (inl less))) (at_or_before k i lt)
        by k l g h at_g at_h (inr lt) = ⊎_elim
            (λ (is : l ≡ i). ⊎_elim (λ (less : k < i). inl (inl (inl less)))
            (λ (from : i ≤ k). ⊎_elim (λ (same : i ≡ k). inr (leads_itself k l g h at_g at_h (sym same ∙ sym is)))
            (λ (less : i < k). ⊎_elim (λ has. inl (inr (inr (is, has)))) (λ none. inr none.1)
            (later l k h g at_h at_g is less)) (eq-or-lt_of_le from)) (cases_lt k i))
            (λ (less : l < i). inl (inl (inr less))) (at_or_before l i lt)

  -- where all places have been looked at, the meetings are those of all edges
  pub all_gathered : (n : ℕ) {ms : List Meeting} → length es ≤ n → AreGathered es (HasBefore n) ms → AreMeetings es ms
  all_gathered n past gathered = gathered_of_more gathered
      (λ k l g h at_g at_h pair. inl (inl (omega (arith, at_g.0, past))))

  -- in another order they are so too
  pub gathered_moved : {Pair : ℕ → ℕ → Type 0} {old new : List Meeting} →
      ((m : Meeting) → Contains old m → Contains new m) → ((m : Meeting) → Contains new m → Contains old m) →
      AreGathered es Pair old → AreGathered es Pair new
  gathered_moved there from gathered = record {
    led = λ m at. gathered.led m (from m at);
    all = λ k l g h at_g at_h pair v at. ⊎_elim (λ end. inl end)
        (λ was. inr (there (record { place = k; point = v }) was)) (gathered.all k l g h at_g at_h pair v at);
  }
