-- An ascending list of edges is settled exactly where each edge meets the later edges in ends alone. Later edges that
-- start right of its end do so, and from the first of those on all do.
use Rattle.std.proofs.Common.{◌≡◌, inl, inr, ⊎_elim, ℕ, ◌<◌, ◌≤◌, true, ◌≤ℤ◌, ◌<ℤ◌, List, length, get_or, sym, subst}
use Rattle.std.proofs.Common.{ap, ◌∙◌, arith}
use Rattle.std.specs.Prelude.{◌↔◌}
use Rattle.std.proofs.Math.Nat.{eq-or-lt_of_le}
use Rattle.std.proofs.lemmas.Bool.{both_ways, cases_lt}
use Rattle.std.proofs.lemmas.Bool.Decides.{Decides-and, Decides-or}
use Rattle.std.proofs.lemmas.List.{get_or_default}
use Rattle.overlay_geom.specs.Plane.{Point, Edge, edge_lt, edge_eq}
use Rattle.overlay_geom.specs.Edges.{CountedEdge, ends_of}
use Rattle.overlay_geom.specs.Settled.{IsSettled}
use Rattle.overlay_geom.proofs.OneLine.{meet_in_ends_exchanged, apart_meet_in_ends}
use Rattle.overlay_geom.proofs.Orders.{Decides-point_eq, edge_eq-from_lt, edge_eq-itself}
use Rattle.overlay_geom.proofs.PointOrder.{Decides-point_lt}
use Rattle.overlay_geom.proofs.Signs.{linear}
use Rattle.overlay_order.specs.Content.{IsHeld, IsAscending}
use Rattle.overlay_pairs.specs.Places.{AreSettledBefore, AreSettledUpTo, IsAt}
use Rattle.overlay_pairs.specs.Settle.{AreSettled}

-- ---- edges that start further right

-- an edge that comes later starts no further left
pub starts_no_further_left : (e f : Edge) → edge_lt e f ≡ true → e.a.x ≤ℤ f.a.x
starts_no_further_left e f comes =
    elim ((Decides-or _ _ (Decides-point_lt e.a f.a)
    (Decides-and _ _ (Decides-point_eq e.a f.a) (Decides-point_lt e.b f.b))).0 comes) [
      | inl before ↦ before.x
      | inr same ↦ let at : e.a.x ≡ f.a.x = ap (λ (p : Point). p.x) same.0 in omega linear
    ]

-- an edge that starts right of another edge's end meets it in ends alone
pub starting_right : (limit : ℕ) (e f : CountedEdge) → IsHeld limit e → IsHeld limit f → e.b.x <ℤ f.a.x → AreSettled e f
starting_right limit e f e_held f_held right =
    apart_meet_in_ends (ends_of e) (ends_of f)
    ((Decides-point_lt e.a e.b).0 e_held.forward) ((Decides-point_lt f.a f.b).0 f_held.forward)
    (record { x = omega linear; y = λ le. absurd (omega linear) })

-- where one of ascending edges starts right of an edge's end, so do the later ones
pub right_from : (e : CountedEdge) (fs : List CountedEdge) (i k : ℕ) (d : CountedEdge)
    → IsAscending fs → i ≤ k → k < length fs → e.b.x <ℤ (get_or fs i d).a.x → e.b.x <ℤ (get_or fs k d).a.x
right_from e fs i k d up le within right =
    elim (eq-or-lt_of_le le) [
      | inl same ↦ subst (λ (j : ℕ). e.b.x <ℤ (get_or fs j d).a.x) same right
      | inr later ↦ let further = starts_no_further_left (ends_of (get_or fs i d)) (ends_of (get_or fs k d))
          (up i k d later within) in omega linear
    ]

-- ---- settled lists

module _ (es : List CountedEdge) where
  -- where each edge meets the later ones in ends alone, the list is settled
  pub settled_throughout : AreSettledBefore es (length es) → IsSettled es
  settled_throughout all e f has_e has_f other = ⊎_elim
      (λ (less : has_e.0 < has_f.0). all.meet has_e.0 has_e.1 has_f.0 e f less has_f.1 at_e at_f)
      (λ (from : has_f.0 ≤ has_e.0). ⊎_elim
      (λ (same : has_f.0 ≡ has_e.0). absurd (both_ways (edge_eq (ends_of e) (ends_of f)) other (one same)))
      (λ (less : has_f.0 < has_e.0). meet_in_ends_exchanged (ends_of e) (ends_of f)
      (all.meet has_f.0 has_f.1 has_e.0 f e less has_e.1 at_f at_e)) (eq-or-lt_of_le from))
      (cases_lt has_e.0 has_f.0)
    where
      at_e : IsAt es has_e.0 e
      at_e = (has_e.1, has_e.2)

      at_f : IsAt es has_f.0 f
      at_f = (has_f.1, has_f.2)

      one : has_f.0 ≡ has_e.0 → edge_eq (ends_of e) (ends_of f) ≡ true
      one same =
          let there : get_or es has_e.0 f ≡ f = subst (λ n. get_or es n f ≡ f) same at_f.1 in
          let is : e ≡ f = sym at_e.1 ∙ get_or_default es has_e.0 e f at_e.0 ∙ there in
          subst (λ (g : CountedEdge). edge_eq (ends_of e) (ends_of g) ≡ true) is (edge_eq-itself (ends_of e))

  -- each edge of an ascending settled list meets the later ones in ends alone
  pub settled_with_later : IsSettled es → IsAscending es → (i : ℕ) → AreSettledUpTo es i (length es)
  settled_with_later settled up i k e f past less at_e at_f =
      let comes : edge_lt (ends_of e) (ends_of f) ≡ true =
      subst (λ (g : CountedEdge). edge_lt (ends_of g) (ends_of f) ≡ true) at_e.1
      (subst (λ (g : CountedEdge). edge_lt (ends_of (get_or es i e)) (ends_of g) ≡ true)
      (get_or_default es k e f at_f.0 ∙ at_f.1) (up i k e past at_f.0)) in
      settled e f (i, at_e.0, at_e.1) (k, at_f.0, at_f.1) (edge_eq-from_lt (ends_of e) (ends_of f) comes)

  -- the list is settled exactly where the first edge that fails is counted behind all of them
  pub settled_where_counted : (n len : ℕ) → length es ≡ len → IsAscending es → AreSettledBefore es n →
      (n < len → ¬ (AreSettledUpTo es n len)) → (n ≡ len) ↔ IsSettled es
  settled_where_counted n len same up front most = (
    λ all. settled_throughout (subst (AreSettledBefore es) (all ∙ sym same) front),
    λ settled. ⊎_elim (λ (all : n ≡ len). all)
        (λ (less : n < len). absurd (most less
        (subst (AreSettledUpTo es n) same (settled_with_later settled up n))))
        (eq-or-lt_of_le (let within = front.within in let le : n ≤ len = omega (arith, within, same) in le)),
  )
