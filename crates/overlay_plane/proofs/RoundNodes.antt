-- The spoke lemma: from one spoke to another the winding rises by the counts of the spokes between. So it does not
-- change from each spoke to the next.
use Rattle.std.proofs.Common.{◌≡◌, ◌⊎◌, inl, inr, ⊎_elim, Bool, true, false, not, cond, ◌&&◌, ℤ, pos, ◌+ℤ◌, ◌-ℤ◌, ◌*ℤ◌}
use Rattle.std.proofs.Common.{neg_ℤ, List, Contains, refl, sym, ap, ap₂, ◌∙◌, subst}
use Rattle.std.proofs.lemmas.Bool.{false≢true, and_from, and_parts}
use lib.IntN.{+ℤ_idr}
use Rattle.overlay_geom.specs.Plane.{Point, Edge, in_plane, point_eq, edge_eq, total}
use Rattle.overlay_geom.specs.Edges.{CountedEdge, ends_of, winding_by}
use Rattle.overlay_geom.proofs.Identities.{solve, number, ◌⊕◌, ◌⊗◌, ◌⊖◌, ◌≗◌}
use Rattle.overlay_geom.proofs.Signs.{linear, by_sign}
use Rattle.overlay_geom.proofs.Orders.{point_eq-same, edge_eq-same, point_eq-of_same, edge_eq-exchanged}
use Rattle.overlay_plane.specs.Regions.{one_if}
use Rattle.overlay_plane.specs.Turn.{is_met_before}
use Rattle.overlay_plane.specs.Turn.Hand.{right}
use Rattle.overlay_plane.specs.Nodes.{IsBalancedArrangement, edge_turn, turns_left}
use Rattle.overlay_plane.specs.Spokes.{IsSpoke, far_end, winding_before, winding_after, spoke_count, total_between}
use Rattle.overlay_plane.specs.Spokes.{WindingRoundANode, OneWindingBetweenSpokes, OneWindingBesideNeighbours}
use Rattle.overlay_plane.specs.Spokes.{LoneSpokesCountNothing}
use Rattle.overlay_plane.proofs.Tests.{same_tests}
use Rattle.overlay_plane.proofs.Totals.{total-same, total-zero, total-add, total-sub}
use Rattle.overlay_plane.proofs.TurnOrder.{met_irreflexive}
use Rattle.overlay_plane.proofs.NodeWindings.{count-times}
use Rattle.overlay_plane.proofs.SameWay.{same_from_start, same_from_end}
use Rattle.overlay_plane.proofs.SingleEntries.{single_total}
use Rattle.overlay_plane.proofs.EdgeTurns.{IsForward, edge_turn_exchanged, edge_turn_same}
use Rattle.overlay_plane.proofs.SpokeSigns.{alike, sign_at, is_plus, is_level, opposite_sign, sign_minus, sign_level}
use Rattle.overlay_plane.proofs.SpokeSigns.{sign_plus, sign_opposite, test_is_plus, first_from_down}
use Rattle.overlay_plane.proofs.SpokeTurns.{along, met_counted}
use Rattle.overlay_plane.proofs.SpokeWindings.{is_first_from_down, total_first, forward_entry, ends_there}
use Rattle.overlay_plane.proofs.SpokeWindings.{spokes_add_up, before_is, after_is}

-- a number with the sign of 0 is 0
level_from_sign : (z : ℤ) → is_level (sign_at z) ≡ true → z ≡ pos 0
level_from_sign z t = by_sign z (λ low. absurd (false≢true (sym (ap is_level (sign_minus z low)) ∙ t))) (λ none. none)
    (λ high. absurd (false≢true (sym (ap is_level (sign_plus z high)) ∙ t)))

-- an edge is a spoke, or has count 0 round the node
pub spoke_or_nothing : (count : CountedEdge → ℤ) (es : List CountedEdge) (v : Point) (g : CountedEdge) → Contains es g →
    IsSpoke es v g ⊎ (spoke_count count v g ≡ pos 0)
spoke_or_nothing count es v g at = by (point_eq g.a v) refl (point_eq g.b v) refl
  where
    by : (s : Bool) → point_eq g.a v ≡ s → (t : Bool) → point_eq g.b v ≡ t →
        IsSpoke es v g ⊎ (cond s (count g) (cond t (neg_ℤ (count g)) (pos 0)) ≡ pos 0)
    by true starts t ends = inl (record { entry = at; at = inl (point_eq-same g.a v starts) })
    by false starts true ends = inl (record { entry = at; at = inr (point_eq-same g.b v ends) })
    by false starts false ends = inr refl

module _ (count : CountedEdge → ℤ) (es : List CountedEdge) (arranged : IsBalancedArrangement count es) (v : Point)
    (e f : CountedEdge) (spoke_e : IsSpoke es v e) (spoke_f : IsSpoke es v f) where
  -- whether g is between e and f, counted
  abbrev rank : CountedEdge → ℤ
  rank g = ((one_if (is_first_from_down v g f) -ℤ one_if (is_first_from_down v g e)) -ℤ one_if
      (edge_eq (ends_of g) (ends_of e))) +ℤ one_if (not (is_first_from_down v e f))

  -- a spoke on the same ray as e is e
  one_ray : (g : CountedEdge) → IsSpoke es v g →
      (alike (point_eq g.a v) (point_eq e.a v) && is_level (sign_at (edge_turn (ends_of e) (ends_of g)))) ≡ edge_eq
      (ends_of g) (ends_of e)
  one_ray g spoke = same_tests (alike (point_eq g.a v) (point_eq e.a v) && is_level
      (sign_at (edge_turn (ends_of e) (ends_of g)))) (edge_eq (ends_of g) (ends_of e)) there back
    where
      forward_e : IsForward (ends_of e)
      forward_e = forward_entry count es arranged e spoke_e.entry

      forward_g : IsForward (ends_of g)
      forward_g = forward_entry count es arranged g spoke.entry

      one : (h k : Bool) → point_eq g.a v ≡ h → point_eq e.a v ≡ k → alike h k ≡ true →
          edge_turn (ends_of e) (ends_of g) ≡ pos 0 → edge_eq (ends_of e) (ends_of g) ≡ true
      one true true hg he same level = same_from_start (ends_of e) (ends_of g) forward_e forward_g level
          (arranged.planar.settled e g spoke_e.entry spoke.entry)
          (point_eq-same e.a v he ∙ sym (point_eq-same g.a v hg))
      one true false hg he same level = absurd (false≢true same)
      one false true hg he same level = absurd (false≢true same)
      one false false hg he same level = same_from_end (ends_of e) (ends_of g) forward_e forward_g level
          (arranged.planar.settled e g spoke_e.entry spoke.entry) (ends_there es v e spoke_e he
          ∙ sym (ends_there es v g spoke hg))

      there : (alike (point_eq g.a v) (point_eq e.a v) && is_level (sign_at (edge_turn (ends_of e) (ends_of g))))
          ≡ true → edge_eq (ends_of g) (ends_of e) ≡ true
      there t =
          let both = and_parts (alike (point_eq g.a v) (point_eq e.a v))
          (is_level (sign_at (edge_turn (ends_of e) (ends_of g)))) t in
          edge_eq-exchanged (ends_of e) (ends_of g)
          (one (point_eq g.a v) (point_eq e.a v) refl refl both.0
          (level_from_sign (edge_turn (ends_of e) (ends_of g)) both.1))

      alike_itself : (k : Bool) → alike k k ≡ true
      alike_itself true = refl
      alike_itself false = refl

      back : edge_eq (ends_of g) (ends_of e) ≡ true →
          (alike (point_eq g.a v) (point_eq e.a v) && is_level (sign_at (edge_turn (ends_of e) (ends_of g)))) ≡ true
      back t = subst (λ (h : Edge). (alike (point_eq h.a v) (point_eq e.a v) && is_level
          (sign_at (edge_turn (ends_of e) h))) ≡ true) (sym (edge_eq-same (ends_of g) (ends_of e) t))
          (and_from (alike (point_eq e.a v) (point_eq e.a v)) (is_level (sign_at (edge_turn (ends_of e) (ends_of e))))
          (alike_itself (point_eq e.a v))
          (ap is_level (sign_level (edge_turn (ends_of e) (ends_of e)) (edge_turn_same (ends_of e)))))

  -- a spoke is between the two exactly if it is first before one and not before the other
  ranked : (g : CountedEdge) → IsSpoke es v g →
      one_if (is_met_before right v (far_end v e) (far_end v g) (far_end v f)) ≡ rank g
  ranked g spoke = met_counted v (far_end v e) (far_end v g) (far_end v f) (ends_of e) (ends_of g) (ends_of f)
      (point_eq e.a v) (point_eq g.a v) (point_eq f.a v)
      (forward_entry count es arranged e spoke_e.entry) (forward_entry count es arranged g spoke.entry)
      (forward_entry count es arranged f spoke_f.entry) (along v e spoke_e.at) (along v g spoke.at)
      (along v f spoke_f.at)
      ∙ ap₂ (λ x y. x +ℤ y)
      (ap₂ (λ x y. x -ℤ y)
      (ap₂ (λ x y. x -ℤ y) (ap (λ t. one_if (first_from_down (point_eq g.a v) (point_eq f.a v) t))
      (sym (test_is_plus (edge_turn (ends_of g) (ends_of f)))))
      (ap (λ t. one_if (first_from_down (point_eq g.a v) (point_eq e.a v) t)) left_of_g))
      (ap (λ t. one_if t) (one_ray g spoke)))
      (ap (λ t. one_if (not (first_from_down (point_eq e.a v) (point_eq f.a v) t)))
      (sym (test_is_plus (edge_turn (ends_of e) (ends_of f)))))
    where
      left_of_g : is_plus (opposite_sign (sign_at (edge_turn (ends_of e) (ends_of g)))) ≡ turns_left
          (ends_of g) (ends_of e)
      left_of_g = ap is_plus (sym (sign_opposite (edge_turn (ends_of e) (ends_of g))))
          ∙ ap (λ z. is_plus (sign_at z)) (sym (edge_turn_exchanged (ends_of g) (ends_of e)))
          ∙ sym (test_is_plus (edge_turn (ends_of g) (ends_of e)))

  -- the sum of g round the node
  abbrev sc : CountedEdge → ℤ
  sc g = spoke_count count v g

  -- the sum of g between the two, by the spokes met first from straight down
  abbrev terms : CountedEdge → ℤ
  terms g = ((cond (is_first_from_down v g f) (sc g) (pos 0) -ℤ cond (is_first_from_down v g e) (sc g) (pos 0)) -ℤ cond
      (edge_eq (ends_of g) (ends_of e)) (sc g) (pos 0)) +ℤ cond (not (is_first_from_down v e f)) (sc g) (pos 0)

  -- entry by entry
  each : (g : CountedEdge) → Contains es g → cond (is_met_before right v (far_end v e) (far_end v g) (far_end v f))
      (sc g) (pos 0) ≡ terms g
  each g at = count-times (is_met_before right v (far_end v e) (far_end v g) (far_end v f)) (sc g)
      ∙ ⊎_elim (λ spoke. ap (λ z. sc g *ℤ z) (ranked g spoke)) nothing (spoke_or_nothing count es v g at)
      ∙ spread (sc g) (one_if (is_first_from_down v g f)) (one_if (is_first_from_down v g e))
      (one_if (edge_eq (ends_of g) (ends_of e))) (one_if (not (is_first_from_down v e f)))
      ∙ sym (ap₂ (λ x y. x +ℤ y) (ap₂ (λ x y. x -ℤ y)
      (ap₂ (λ x y. x -ℤ y) (count-times (is_first_from_down v g f) (sc g))
      (count-times (is_first_from_down v g e) (sc g))) (count-times (edge_eq (ends_of g) (ends_of e)) (sc g)))
      (count-times (not (is_first_from_down v e f)) (sc g)))
    where
      nothing : sc g ≡ pos 0 → sc g *ℤ one_if (is_met_before right v (far_end v e) (far_end v g) (far_end v f))
          ≡ sc g *ℤ rank g
      nothing none = ap (λ z. z *ℤ one_if (is_met_before right v (far_end v e) (far_end v g) (far_end v f))) none
          ∙ no_matter (one_if (is_met_before right v (far_end v e) (far_end v g) (far_end v f))) (rank g)
          ∙ ap (λ z. z *ℤ rank g) (sym none)
        where
          no_matter : (a b : ℤ) → pos 0 *ℤ a ≡ pos 0 *ℤ b
          no_matter = solve 2 (λ a b. number (pos 0) ⊗ a ≗ number (pos 0) ⊗ b) tt

      spread : (c x y z w : ℤ) → c *ℤ (((x -ℤ y) -ℤ z) +ℤ w) ≡ ((c *ℤ x -ℤ c *ℤ y) -ℤ c *ℤ z) +ℤ c *ℤ w
      spread = solve 5 (λ c x y z w. c ⊗ (((x ⊖ y) ⊖ z) ⊕ w) ≗ ((c ⊗ x ⊖ c ⊗ y) ⊖ c ⊗ z) ⊕ c ⊗ w) tt

  -- the sum over the spokes between the two
  between_is : total_between (spoke_count count v) es v e f ≡ (total_first count es v f -ℤ total_first count es v e)
      -ℤ spoke_count count v e
  between_is = total-same (λ g. cond (is_met_before right v (far_end v e) (far_end v g) (far_end v f)) (sc g) (pos 0))
      terms es each
      ∙ total-add (λ g. (first_f g -ℤ first_e g) -ℤ itself g) all es
      ∙ ap₂ (λ x y. x +ℤ y) (total-sub (λ g. first_f g -ℤ first_e g) itself es
      ∙ ap₂ (λ x y. x -ℤ y) (total-sub first_f first_e es)
      (single_total es arranged.planar.distinct (spoke_count count v) e spoke_e.entry))
      (whole (not (is_first_from_down v e f)))
      ∙ +ℤ_idr ((total_first count es v f -ℤ total_first count es v e) -ℤ spoke_count count v e)
    where
      first_f : CountedEdge → ℤ
      first_f g = cond (is_first_from_down v g f) (sc g) (pos 0)

      first_e : CountedEdge → ℤ
      first_e g = cond (is_first_from_down v g e) (sc g) (pos 0)

      itself : CountedEdge → ℤ
      itself g = cond (edge_eq (ends_of g) (ends_of e)) (sc g) (pos 0)

      all : CountedEdge → ℤ
      all g = cond (not (is_first_from_down v e f)) (sc g) (pos 0)

      whole : (t : Bool) → total (λ g. cond t (sc g) (pos 0)) es ≡ pos 0
      whole true = spokes_add_up count es arranged v
      whole false = total-zero (λ g. pos 0) es (λ g at. refl)

  -- the winding after e plus the counts between is the winding before f
  round : winding_after count es v e +ℤ total_between (spoke_count count v) es v e f ≡ winding_before count es v f
  round = add (winding_after count es v e) (winding_before count es v e) (winding_before count es v f)
      (winding_by count es (in_plane v)) (total_first count es v e) (total_first count es v f) (spoke_count count v e)
      (total_between (spoke_count count v) es v e f)
      (after_is count es arranged v e spoke_e) (before_is count es arranged v e spoke_e)
      (before_is count es arranged v f spoke_f) between_is
    where
      add : (after before before_f w te tf c t : ℤ) → after ≡ before +ℤ c → before ≡ w +ℤ te → before_f ≡ w +ℤ tf →
          t ≡ (tf -ℤ te) -ℤ c → after +ℤ t ≡ before_f
      add after before before_f w te tf c t p q r s = omega linear

-- from one spoke to another the winding rises by the counts of those between
pub winding_round_a_node : WindingRoundANode
winding_round_a_node count es arranged v e f spoke_e spoke_f = round count es arranged v e f spoke_e spoke_f

-- across spokes that have count 0 it stays the same
pub one_winding_between_spokes : OneWindingBetweenSpokes
one_winding_between_spokes count es arranged v e f spoke_e spoke_f nothing =
    sym (ap (λ z. winding_after count es v e +ℤ z) none ∙ +ℤ_idr (winding_after count es v e))
    ∙ winding_round_a_node count es arranged v e f spoke_e spoke_f
  where
    zero_count : (g : CountedEdge) → count g ≡ pos 0 →
        (s t : Bool) → cond s (count g) (cond t (neg_ℤ (count g)) (pos 0)) ≡ pos 0
    zero_count g zero true t = zero
    zero_count g zero false true = ap neg_ℤ zero
    zero_count g zero false false = refl

    each : (g : CountedEdge) → Contains es g → (t : Bool) → is_met_before right v (far_end v e) (far_end v g)
        (far_end v f) ≡ t → cond t (spoke_count count v g) (pos 0) ≡ pos 0
    each g at true between = ⊎_elim (λ spoke. zero_count g (nothing g spoke between) (point_eq g.a v) (point_eq g.b v))
        (λ none. none) (spoke_or_nothing count es v g at)
    each g at false between = refl

    none : total_between (spoke_count count v) es v e f ≡ pos 0
    none = total-zero (λ g. cond (is_met_before right v (far_end v e) (far_end v g) (far_end v f))
        (spoke_count count v g) (pos 0)) es
        (λ g at. each g at (is_met_before right v (far_end v e) (far_end v g) (far_end v f)) refl)

-- this holds from a spoke to the next
pub one_winding_beside_neighbours : OneWindingBesideNeighbours
one_winding_beside_neighbours count es arranged v e f spoke_e spoke_f none = one_winding_between_spokes count es
    arranged v e f spoke_e spoke_f (λ g spoke between. absurd (none g spoke between))

-- this holds once round from a spoke without others
pub lone_spokes_count_nothing : LoneSpokesCountNothing
lone_spokes_count_nothing count es arranged v e spoke lone =
    record { one_winding = one; none = counts_nothing (point_eq e.a v) refl }
  where
    one : winding_after count es v e ≡ winding_before count es v e
    one = one_winding_beside_neighbours count es arranged v e e spoke spoke
        (λ m at between. false≢true (sym (met_irreflexive right v (far_end v e) (far_end v e))
        ∙ subst (λ (h : CountedEdge). is_met_before right v (far_end v e) (far_end v h) (far_end v e) ≡ true)
        (lone m at) between))

    nothing : spoke_count count v e ≡ pos 0
    nothing = left_over (winding_before count es v e) (winding_after count es v e) (spoke_count count v e)
        (after_is count es arranged v e spoke) one
      where
        left_over : (b a c : ℤ) → a ≡ b +ℤ c → a ≡ b → c ≡ pos 0
        left_over b a c p q = omega linear

    counts_nothing : (s : Bool) → point_eq e.a v ≡ s → count e ≡ pos 0
    counts_nothing true starts = sym (ap (λ t. cond t (count e) (cond (point_eq e.b v) (neg_ℤ (count e)) (pos 0)))
        starts) ∙ nothing
    counts_nothing false other = let n = sym (ap₂ (λ s t. cond s (count e) (cond t (neg_ℤ (count e)) (pos 0))) other
        (point_eq-of_same e.b v (ends_there es v e spoke other))) ∙ nothing in opposite (count e) n
      where
        opposite : (c : ℤ) → neg_ℤ c ≡ pos 0 → c ≡ pos 0
        opposite c n = omega linear
