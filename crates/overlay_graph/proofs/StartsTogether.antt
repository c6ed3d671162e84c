-- Neighbouring edges in the order of starts that start in one point: the winding below the later is the winding above
-- the earlier.
use Rattle.std.proofs.Common.{◌≡◌, ◌⊎◌, ⊎_elim, inl, inr, Bool, ℕ, ◌+◌, ◌<◌, true, false, ◌&&◌, ℤ, pos, List, length}
use Rattle.std.proofs.Common.{get_or, Contains, refl, sym, ap, ◌∙◌, subst, arith}
use Rattle.std.specs.List.{AllPairs}
use Rattle.std.proofs.Math.Nat.{eq-or-lt_of_le}
use Rattle.std.proofs.lemmas.Bool.{cases_lt, both_ways, and_parts, and_from, or_cases, or_left, or_right}
use Rattle.std.proofs.lemmas.Bool.{false_from_ne_true}
use Rattle.std.proofs.lemmas.List.{get_or_default}
use Rattle.std.proofs.lemmas.List.Elements.{All-contains}
use Rattle.overlay_geom.specs.Edges.{CountedEdge, ends_of, winding_below, winding_above}
use Rattle.overlay_geom.specs.Plane.{Point, edge_eq, in_plane, point_eq, point_lt, is_strictly_below}
use Rattle.overlay_geom.proofs.Orders.{edge_eq-flip, point_eq-same, point_eq-of_same}
use Rattle.overlay_geom.proofs.Signs.{linear}
use Rattle.overlay_plane.specs.Anchors.{is_anchored_before, is_below_anchor}
use Rattle.overlay_plane.specs.Heights.{covers, is_under}
use Rattle.overlay_plane.specs.Nodes.{IsBalancedArrangement, edge_turn, turns_left}
use Rattle.overlay_plane.proofs.AnchorOrder.{anchored_before-itself}
use Rattle.overlay_plane.proofs.BelowAnchors.{below_an_anchor_is_under}
use Rattle.overlay_plane.proofs.EdgeTurns.{edge_turn_exchanged, wide_before_left}
use Rattle.overlay_plane.proofs.SameWay.{same_from_start}
use Rattle.overlay_plane.proofs.Tests.{lt_from_test, ge_from_test}
use Rattle.overlay_plane.proofs.WhereEdgesStart.{covers_start}
use Rattle.overlay_scan.proofs.EntriesByStart.{below_is_before}
use Rattle.overlay_scan.proofs.WindingsBelow.{winding_above_the_greatest}

module _ (count : CountedEdge → ℤ) (fs : List CountedEdge) (r : IsBalancedArrangement count fs)
    (order : AllPairs (λ e f. is_anchored_before (ends_of f) (ends_of e) ≡ false) fs) where
  forward : (f : CountedEdge) → Contains fs f → point_lt f.a f.b ≡ true
  forward f at = All-contains (λ (g : CountedEdge). point_lt g.a g.b ≡ true) fs f r.planar.forward at

  -- two edges of the list, the second behind the first
  module _ (i j : ℕ) (e f : CountedEdge) (early : i < j) (late : j < length fs) (at_e : get_or fs i e ≡ e)
      (at_f : get_or fs j f ≡ f) where
    same_f : get_or fs j e ≡ f
    same_f = get_or_default fs j e f late ∙ at_f

    -- it does not start before that
    not_before : is_anchored_before (ends_of f) (ends_of e) ≡ false
    not_before = subst (λ (k : CountedEdge). is_anchored_before (ends_of f) (ends_of k) ≡ false) at_e
        (subst (λ (k : CountedEdge). is_anchored_before (ends_of k) (ends_of (get_or fs i e)) ≡ false) same_f
        (order i j e early late))

    distinct : edge_eq (ends_of e) (ends_of f) ≡ false
    distinct = subst (λ (k : CountedEdge). edge_eq (ends_of k) (ends_of f) ≡ false) at_e
        (subst (λ (k : CountedEdge). edge_eq (ends_of (get_or fs i e)) (ends_of k) ≡ false) same_f
        (r.planar.distinct i j e early late))

    -- from an equal point that leads to the left of it
    leads_left : e.a ≡ f.a → turns_left (ends_of e) (ends_of f) ≡ true
    leads_left together = by (turns_left (ends_of e) (ends_of f)) refl
      where
        back : turns_left (ends_of f) (ends_of e) ≡ true → ⊥
        back left = both_ways (is_anchored_before (ends_of f) (ends_of e)) not_before
            (or_right (point_lt f.a e.a) (point_eq f.a e.a && turns_left (ends_of f) (ends_of e))
            (and_from (point_eq f.a e.a) (turns_left (ends_of f) (ends_of e)) (point_eq-of_same f.a e.a (sym together))
            left))

        level : turns_left (ends_of e) (ends_of f) ≡ false → edge_turn (ends_of e) (ends_of f) ≡ pos 0
        level right =
            let one = ge_from_test (pos 0) (edge_turn (ends_of e) (ends_of f)) right in
            let other = ge_from_test (pos 0) (edge_turn (ends_of f) (ends_of e))
            (false_from_ne_true (turns_left (ends_of f) (ends_of e)) back) in
            let exchanged = edge_turn_exchanged (ends_of e) (ends_of f) in
            omega linear

        by : (b : Bool) → turns_left (ends_of e) (ends_of f) ≡ b → turns_left (ends_of e) (ends_of f) ≡ true
        by true left = left
        by false right = absurd (both_ways (edge_eq (ends_of e) (ends_of f)) distinct
            (same_from_start (ends_of e) (ends_of f) (forward e (i, omega arith, at_e)) (forward f (j, late, at_f))
            (level right) (r.planar.settled e f (i, omega arith, at_e) (j, late, at_f)) together))

  module _ (i : ℕ) (p e : CountedEdge) (within : i + 1 < length fs) (here : get_or fs i p ≡ p)
      (next : get_or fs (i + 1) e ≡ e) (together : p.a ≡ e.a) where
    at_p : Contains fs p
    at_p = (i, omega arith, here)

    at_e : Contains fs e
    at_e = (i + 1, within, next)

    left : turns_left (ends_of p) (ends_of e) ≡ true
    left = leads_left i (i + 1) p e (omega arith) within here next together

    -- the first is not vertical
    over : covers (ends_of p) p.a.x (pos 1) ≡ true
    over =
        let wide = wide_before_left (ends_of p) (ends_of e) (forward p at_p) (forward e at_e)
        (lt_from_test (pos 0) (edge_turn (ends_of p) (ends_of e)) left) in
        covers_start (ends_of p) (omega linear)

    -- an edge before it that is below the second is below it
    below_first : (k : ℕ) (h : CountedEdge) → k < i → get_or fs k h ≡ h →
        is_below_anchor (ends_of e) (ends_of h) ≡ true → is_below_anchor (ends_of p) (ends_of h) ≡ true
    below_first k h early at below = ⊎_elim
        (λ strict. or_left (is_strictly_below (ends_of h) (in_plane p.a))
        (point_eq h.a p.a && turns_left (ends_of h) (ends_of p))
        (subst (λ (q : Point). is_strictly_below (ends_of h) (in_plane q) ≡ true) (sym together) strict))
        (λ starts.
        let same = point_eq-same h.a e.a
        (and_parts (point_eq h.a e.a) (turns_left (ends_of h) (ends_of e)) starts).0 ∙ sym together in
        or_right (is_strictly_below (ends_of h) (in_plane p.a))
        (point_eq h.a p.a && turns_left (ends_of h) (ends_of p))
        (and_from (point_eq h.a p.a) (turns_left (ends_of h) (ends_of p)) (point_eq-of_same h.a p.a same)
        (leads_left k i h p early (omega arith) at here same)))
        (or_cases (is_strictly_below (ends_of h) (in_plane e.a))
        (point_eq h.a e.a && turns_left (ends_of h) (ends_of e)) below)

    under_first : (k : ℕ) (h : CountedEdge) → k < i → get_or fs k h ≡ h →
        is_below_anchor (ends_of e) (ends_of h) ≡ true → is_under (ends_of h) (ends_of p) e.a.x (pos 1) ≡ true
    under_first k h early at below =
        let at_h : Contains fs h = (k, omega arith, at) in
        let law = below_an_anchor_is_under (ends_of p) (ends_of h) (forward p at_p) (forward h at_h)
        (inr (r.planar.settled p h at_p at_h
        (edge_eq-flip (ends_of h) (ends_of p) (distinct k i h p early (omega arith) at here)))) over in
        subst (λ (q : Point). is_under (ends_of h) (ends_of p) q.x (pos 1) ≡ true) together
        (and_parts (covers (ends_of h) p.a.x (pos 1)) (is_under (ends_of h) (ends_of p) p.a.x (pos 1))
        (sym law ∙ below_first k h early at below)).1

    -- nothing below the second stands behind the first
    none_behind : (k : ℕ) (h : CountedEdge) → i < k → k < length fs → get_or fs k h ≡ h →
        is_below_anchor (ends_of e) (ends_of h) ≡ true → ⊥
    none_behind k h behind short at below = ⊎_elim
        (λ same. both_ways (is_anchored_before (ends_of h) (ends_of e))
        (subst (λ (g : CountedEdge). is_anchored_before (ends_of g) (ends_of e) ≡ false)
        (sym next ∙ get_or_default fs (i + 1) e h within ∙ ap (λ n. get_or fs n h) same ∙ at)
        (anchored_before-itself (ends_of e) (forward e at_e)))
        (below_is_before (ends_of e) (ends_of h) below))
        (λ later. both_ways (is_anchored_before (ends_of h) (ends_of e))
        (not_before (i + 1) k e h later short next at) (below_is_before (ends_of e) (ends_of h) below))
        (eq-or-lt_of_le (omega arith))

    greatest : (h : CountedEdge) → Contains fs h → is_below_anchor (ends_of e) (ends_of h) ≡ true →
        (h ≡ p) ⊎ (is_under (ends_of h) (ends_of p) e.a.x (pos 1) ≡ true)
    greatest h at below = ⊎_elim
        (λ early. inr (under_first at.0 h early at.2 below))
        (λ not_early. ⊎_elim
        (λ same. inl (sym at.2 ∙ sym (ap (λ n. get_or fs n h) same) ∙ get_or_default fs i h p (omega arith) ∙ here))
        (λ behind. absurd (none_behind at.0 h behind at.1 at.2 below))
        (eq-or-lt_of_le not_early))
        (cases_lt at.0 i)

    pub winding_between : winding_below count fs e ≡ winding_above count fs p
    winding_between = winding_above_the_greatest count fs r e at_e p (record {
      entry = at_p;
      is = or_right (is_strictly_below (ends_of p) (in_plane e.a))
          (point_eq p.a e.a && turns_left (ends_of p) (ends_of e))
          (and_from (point_eq p.a e.a) (turns_left (ends_of p) (ends_of e)) (point_eq-of_same p.a e.a together) left);
      greatest = greatest;
    })
