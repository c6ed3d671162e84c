-- The changed edges of a list: two others have the ends of edges of the list before that are not open, so they meet in
-- ends alone. A walk through both lists finds their places.
use Rattle.std.proofs.Common.{◌≡◌, ⊎_elim, inl, inr, ℕ, ◌+◌, ◌<◌, ◌≤◌, Bool, true, false, List, [], ◌∷◌, ◌++◌}
use Rattle.std.proofs.Common.{Contains, length, get_or, sym, ap, ◌∙◌, subst, arith}
use Rattle.std.proofs.lemmas.Bool.{both_ways, cases_lt}
use Rattle.std.proofs.lemmas.List.{get_or_default}
use Rattle.std.proofs.lemmas.List.Elements.{All-push, Contains-append_left, Contains-push}
use Rattle.std.proofs.lemmas.List.Quantifiers.{all_pairs_push}
use Rattle.std.proofs.Math.Nat.{eq-or-lt_of_le}
use Rattle.overlay_geom.specs.Edges.{CountedEdge, ends_of}
use Rattle.overlay_geom.specs.Plane.{Edge, edge_lt, edge_eq}
use Rattle.overlay_geom.specs.Settled.{MeetInEnds}
use Rattle.overlay_geom.proofs.OneLine.{meet_in_ends_exchanged}
use Rattle.overlay_geom.proofs.Orders.{edge_eq-from_lt, edge_eq-itself}
use Rattle.overlay_order.specs.Content.{IsAscending}
use Rattle.overlay_pairs.specs.Changed.{AreChangedBefore, AreChangesOf, AreOpenIn, StandAt, WasClosed}
use Rattle.overlay_pairs.specs.Places.{IsAt}
use Rattle.overlay_pairs.specs.Settle.{AreSettled}
use Rattle.overlay_pairs.proofs.Entries.{one_entry}

-- ---- edges that were closed

module _ (es : List CountedEdge) (up : IsAscending es) where
  -- of two edges the earlier one comes first
  pub comes : (i j : ℕ) (e f : CountedEdge) → i < j → IsAt es i e → IsAt es j f → edge_lt (ends_of e) (ends_of f) ≡ true
  comes i j e f less at_e at_f =
      subst (λ (g : CountedEdge). edge_lt (ends_of g) (ends_of f) ≡ true) at_e.1
      (subst (λ (g : CountedEdge). edge_lt (ends_of (get_or es i e)) (ends_of g) ≡ true)
      (get_or_default es j e f at_f.0 ∙ at_f.1) (up i j e less at_f.0))

  -- two edges at different places have different ends
  differ : (i j : ℕ) (e f : CountedEdge) → i < j → IsAt es i e → IsAt es j f → ¬ (ends_of e ≡ ends_of f)
  differ i j e f less at_e at_f same = both_ways (edge_eq (ends_of e) (ends_of f))
      (edge_eq-from_lt (ends_of e) (ends_of f) (comes i j e f less at_e at_f))
      (subst (λ (g : Edge). edge_eq (ends_of e) g ≡ true) same (edge_eq-itself (ends_of e)))

  module _ (before : List CountedEdge) (opens : List Bool) (known : AreOpenIn before opens) where
    -- a place is not both open and closed
    not_open : (k : ℕ) → IsAt opens k false → ¬ (IsAt opens k true)
    not_open k closed is_open = let same = one_entry opens k false true closed is_open in absurd (cc)

    -- two of the list before that were closed, at different places, meet in ends alone
    closed_settled : (k l : ℕ) (e f : CountedEdge) → ¬ (k ≡ l) → IsAt before k e → IsAt before l f →
        IsAt opens k false → IsAt opens l false → AreSettled e f
    closed_settled k l e f apart at_e at_f one other = ⊎_elim
        (λ (less : k < l). forth k l e f less at_e at_f one other)
        (λ (from : l ≤ k). ⊎_elim (λ (same : l ≡ k). absurd (apart (sym same)))
        (λ (less : l < k). meet_in_ends_exchanged (ends_of e) (ends_of f) (forth l k f e less at_f at_e other one))
        (eq-or-lt_of_le from)) (cases_lt k l)
      where
        forth : (m n : ℕ) (g h : CountedEdge) → m < n → IsAt before m g → IsAt before n h → IsAt opens m false →
            IsAt opens n false → AreSettled g h
        forth m n g h less at_g at_h first second = ⊎_elim
            (λ one. ⊎_elim (λ is_open. absurd (not_open m first is_open))
            (λ is_open. absurd (not_open n second is_open)) one)
            (λ settled. settled) (known.all m n g h at_g.0 less at_g at_h)

    -- two edges with the ends of closed edges meet in ends alone
    unchanged_settled : (i j : ℕ) (e f : CountedEdge) → i < j → IsAt es i e → IsAt es j f →
        WasClosed before opens e → WasClosed before opens f → AreSettled e f
    unchanged_settled i j e f less at_e at_f was_e was_f =
        subst (λ (u : Edge). MeetInEnds u (ends_of f)) was_e.ends
        (subst (λ (u : Edge). MeetInEnds (ends_of was_e.edge) u) was_f.ends
        (closed_settled was_e.place was_f.place was_e.edge was_f.edge apart was_e.at was_f.at was_e.closed
        was_f.closed))
      where
        apart : ¬ (was_e.place ≡ was_f.place)
        apart same =
            let is : was_e.edge ≡ was_f.edge = one_entry before was_f.place was_e.edge was_f.edge
            (subst (λ n. IsAt before n was_e.edge) same was_e.at) was_f.at in
            differ i j e f less at_e at_f (sym was_e.ends ∙ ap ends_of is ∙ was_f.ends)

    -- the places that a walk through both lists finds are those of the changes
    pub changes_found : (n : ℕ) (places : List ℕ) (cs : List CountedEdge) → length es ≤ n →
        AreChangedBefore es before opens n places → StandAt es places cs → AreChangesOf es places cs
    changes_found n places cs past found stand = record {
      ascending = found.ascending;
      stand = stand;
      all = λ i j e f less at_e at_f. ⊎_elim (λ has. inl has)
          (λ was_e. ⊎_elim (λ has. inr (inl has))
          (λ was_f. inr (inr (unchanged_settled i j e f less at_e at_f was_e was_f)))
          (found.all j f (omega (arith, past, at_f.0)) at_f))
          (found.all i e (omega (arith, past, at_e.0)) at_e);
    }

-- ---- a walk that finds their places

module _ (es before : List CountedEdge) (opens : List Bool) (i : ℕ) where
  -- at first none is looked at
  pub none_changed : AreChangedBefore es before opens 0 []
  none_changed = record {
    ascending = λ j k d less within. absurd (omega (arith, within));
    within = λ k d within. absurd (omega (arith, within));
    all = λ k e less at_e. absurd (omega (arith, less));
  }

  -- one more is changed
  pub changed_more : (places : List ℕ) → AreChangedBefore es before opens i places →
      AreChangedBefore es before opens (i + 1) (places ++ i ∷ [])
  changed_more places so_far = record {
    ascending = all_pairs_push (λ j k. j < k) places i so_far.ascending (λ k d inside. so_far.within k d inside);
    within = All-push (λ k. k < i + 1) places i
        (λ k d inside. let less = so_far.within k d inside in omega (arith, less)) (omega arith);
    all = λ k e less at_e. ⊎_elim
        (λ (here : k ≡ i). inl (subst (Contains (places ++ i ∷ [])) (sym here) (Contains-push places i)))
        (λ (earlier : k < i). ⊎_elim (λ has. inl (Contains-append_left places (i ∷ []) k has))
        (λ was. inr was) (so_far.all k e earlier at_e))
        (eq-or-lt_of_le (let le : k ≤ i = omega (arith, less) in le));
  }

  -- or was closed
  pub changed_past : (places : List ℕ) (e : CountedEdge) → IsAt es i e → WasClosed before opens e →
      AreChangedBefore es before opens i places → AreChangedBefore es before opens (i + 1) places
  changed_past places e at_e was so_far = record {
    ascending = so_far.ascending;
    within = λ k d inside. let less = so_far.within k d inside in omega (arith, less);
    all = λ k f less at_f. ⊎_elim
        (λ (here : k ≡ i). inr (subst (WasClosed before opens)
        (one_entry es i e f at_e (subst (λ n. IsAt es n f) here at_f)) was))
        (λ (earlier : k < i). so_far.all k f earlier at_f)
        (eq-or-lt_of_le (let le : k ≤ i = omega (arith, less) in le));
  }
