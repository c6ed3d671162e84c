-- A loop over pairs of edges that marks edges that meet elsewhere than in ends. Of each tested pair an edge is open, or
-- the two meet in ends alone.
use Rattle.std.proofs.Common.{◌≡◌, ◌⊎◌, ⊎_elim, inl, inr, ℕ, ◌+◌, ◌<◌, ◌≤◌, Bool, List, [], ◌∷◌, ◌++◌, Contains}
use Rattle.std.proofs.Common.{length, sym, subst, ◌∙◌, arith}
use Rattle.std.proofs.lemmas.List.Elements.{Contains-push_cases}
use Rattle.std.proofs.Math.Nat.{eq-or-lt_of_le}
use Rattle.overlay_geom.specs.Edges.{CountedEdge}
use Rattle.overlay_pairs.specs.Changed.{AreOpenBefore, AreOpenIn, IsOneOpen, StayOpen}
use Rattle.overlay_pairs.specs.Places.{AreSettledBefore, IsAt}
use Rattle.overlay_pairs.specs.Near.{AreNear}
use Rattle.overlay_pairs.specs.Settle.{AreSettled}
use Rattle.overlay_pairs.proofs.Entries.{one_entry}

-- an open place of two stays open
one_stays : (old new : List Bool) → StayOpen old new → (i j : ℕ) → IsOneOpen old i j → IsOneOpen new i j
one_stays old new stay i j (inl one) = inl (stay i one)
one_stays old new stay i j (inr other) = inr (stay j other)

module _ (es : List CountedEdge) where
  -- edges at the front that meet each later one in ends alone need not be open
  pub front_closed : (n : ℕ) (opens : List Bool) → length opens ≡ length es → AreSettledBefore es n →
      AreOpenBefore es n opens
  front_closed n opens count front = record {
    count = count;
    all = λ i j e f less later at_e at_f. inr (front.meet i less j e f later at_f.0 at_e at_f);
  }

  -- where all places have been looked at, the edges are those of the list
  pub all_open : (n : ℕ) (opens : List Bool) → length es ≤ n → AreOpenBefore es n opens → AreOpenIn es opens
  all_open n opens past so_far = record {
    count = so_far.count;
    all = λ i j e f less later at_e at_f. so_far.all i j e f (omega (arith, less, past)) later at_e at_f;
  }

  -- more may be open
  pub open_still : (n : ℕ) (old new : List Bool) → length new ≡ length old → StayOpen old new →
      AreOpenBefore es n old → AreOpenBefore es n new
  open_still n old new count stay so_far = record {
    count = count ∙ so_far.count;
    all = λ i j e f less later at_e at_f. ⊎_elim (λ one. inl (one_stays old new stay i j one))
        (λ settled. inr settled) (so_far.all i j e f less later at_e at_f);
  }

  module _ (i : ℕ) where
    -- the edge at place i is open, or that at one of the places js, or the two meet in ends alone
    abbrev pub AreOpenWith : List ℕ → List Bool → Type 0
    AreOpenWith js opens = (j : ℕ) (e f : CountedEdge) → Contains js j → IsAt es i e → IsAt es j f →
        IsOneOpen opens i j ⊎ AreSettled e f

    -- at first there is none to look at
    pub none_open : (opens : List Bool) → AreOpenWith [] opens
    none_open opens j e f has = absurd (omega (arith, has.1))

    pub open_with_still : (js : List ℕ) (old new : List Bool) → StayOpen old new → AreOpenWith js old →
        AreOpenWith js new
    open_with_still js old new stay so_far j e f has at_e at_f = ⊎_elim (λ one. inl (one_stays old new stay i j one))
        (λ settled. inr settled) (so_far j e f has at_e at_f)

    -- one more is looked at
    pub open_with_more : (js : List ℕ) (j : ℕ) (opens : List Bool) (e f : CountedEdge) → IsAt es i e → IsAt es j f →
        IsOneOpen opens i j ⊎ AreSettled e f → AreOpenWith js opens → AreOpenWith (js ++ j ∷ []) opens
    open_with_more js j opens e f at_e at_f here so_far k g h has at_g at_h = ⊎_elim
        (λ before. so_far k g h before at_g at_h)
        (λ (same : j ≡ k). ⊎_elim (λ one. inl (subst (IsOneOpen opens i) same one))
        (λ settled. inr (subst (λ (u : CountedEdge). AreSettled u h) (one_entry es i e g at_e at_g)
        (subst (AreSettled e) (one_entry es j f h at_f (subst (λ n. IsAt es n h) (sym same) at_h)) settled))) here)
        (Contains-push_cases js j k has)

    -- where all edges near it have been looked at, all pairs with later ones have
    pub open_with_near : (js : List ℕ) (opens : List Bool) → AreNear es i js → AreOpenWith js opens →
        AreOpenBefore es i opens → AreOpenBefore es (i + 1) opens
    open_with_near js opens near with_near so_far = record {
      count = so_far.count;
      all = λ k j e f less later at_e at_f. ⊎_elim
          (λ (here : k ≡ i). by k j e f later here at_e at_f)
          (λ (before : k < i). so_far.all k j e f before later at_e at_f)
          (eq-or-lt_of_le (let le : k ≤ i = omega (arith, less) in le));
    }
      where
        by : (k j : ℕ) (e f : CountedEdge) → k < j → k ≡ i → IsAt es k e → IsAt es j f →
            IsOneOpen opens k j ⊎ AreSettled e f
        by k j e f later here at_e at_f =
            let at : IsAt es i e = subst (λ n. IsAt es n e) here at_e in
            ⊎_elim (λ has. subst (λ n. IsOneOpen opens n j ⊎ AreSettled e f) (sym here) (with_near j e f has at at_f))
            (λ settled. inr settled) ((near e at).all j f (omega (arith, later, here)) at_f)
