-- From a step to the next by a hand, the winding on the side of that hand stays the same.
use Rattle.std.proofs.Common.{◌≡◌, ◌⊎◌, inl, inr, ⊎_elim, Bool, true, false, cond, ℤ, pos, List, Contains, refl, sym}
use Rattle.std.proofs.Common.{ap, ◌∙◌, subst}
use Rattle.std.proofs.lemmas.Bool.{false≢true}
use Rattle.std.proofs.lemmas.List.Elements.{All-contains}
use Rattle.overlay_geom.specs.Plane.{Point, Step, edge_eq}
use Rattle.overlay_geom.specs.Edges.{CountedEdge, ends_of, winding_below, winding_above}
use Rattle.overlay_geom.proofs.Orders.{point_eq-of_same}
use Rattle.overlay_plane.specs.Turn.{Hand, other_hand, is_met_before, IsMetBefore}
use Rattle.overlay_plane.specs.Turn.Hand.{left, right}
use Rattle.overlay_plane.specs.Nodes.{IsBalancedArrangement}
use Rattle.overlay_plane.specs.Spokes.{IsSpoke, far_end, winding_before, winding_after}
use Rattle.overlay_plane.specs.WindingsBeside.{IsStepAlong, winding_on_side, OneWindingToTheNextStep}
use Rattle.overlay_plane.proofs.TurnOrder.{apart_exchanged, met_irreflexive, start_is_last}
use Rattle.overlay_plane.proofs.CyclicOrder.{met_shifted, met_by_other, met_after}
use Rattle.overlay_plane.proofs.NextSteps.{next_is_one_to_one}
use Rattle.overlay_plane.proofs.SingleEntries.{one_entry}
use Rattle.overlay_plane.proofs.SpokeWindings.{not_start}
use Rattle.overlay_plane.proofs.SpokeRays.{far_apart, spokes_apart}
use Rattle.overlay_plane.proofs.RoundNodes.{one_winding_between_spokes}

module _ (count : CountedEdge → ℤ) (es : List CountedEdge) (arranged : IsBalancedArrangement count es) where
  -- a step that arrives in v, as a spoke there
  pub record Arrives (v : Point) (e : CountedEdge) (s : Step) : Type 0 where
    pub spoke : IsSpoke es v e
    pub far : far_end v e ≡ s.from
    pub on_left : winding_on_side left count es e s ≡ winding_before count es v e
    pub on_right : winding_on_side right count es e s ≡ winding_after count es v e

  -- a step that leaves
  pub record Leaves (v : Point) (e : CountedEdge) (s : Step) : Type 0 where
    pub spoke : IsSpoke es v e
    pub far : far_end v e ≡ s.to
    pub on_left : winding_on_side left count es e s ≡ winding_after count es v e
    pub on_right : winding_on_side right count es e s ≡ winding_before count es v e

  -- two tests with one answer choose the same
  choose : {b c : Bool} (x y : ℤ) (t : Bool) → b ≡ t → c ≡ t → cond b x y ≡ cond c x y
  choose x y t p q = ap (λ z. cond z x y) (p ∙ sym q)

  -- two with opposite answers choose the other way round
  opposite : {b c : Bool} (x y : ℤ) → b ≡ true → c ≡ false → cond b x y ≡ cond c y x
  opposite x y p q = ap (λ z. cond z x y) p ∙ sym (ap (λ z. cond z y x) q)

  -- the same with the answers exchanged
  opposite_too : {b c : Bool} (x y : ℤ) → b ≡ false → c ≡ true → cond b x y ≡ cond c y x
  opposite_too x y p q = ap (λ z. cond z x y) p ∙ sym (ap (λ z. cond z y x) q)

  module _ (v : Point) (e : CountedEdge) (s : Step) (along : IsStepAlong es e s) where
    -- a step that arrives in v is a spoke there
    pub arrives : s.to ≡ v → Arrives v e s
    arrives ends = ⊎_elim forth back along.walks
      where
        forth : s ≡ record { from = e.a; to = e.b } → Arrives v e s
        forth walk =
            let same = sym (ap (λ (q : Step). q.to) walk) ∙ ends in
            let first = point_eq-of_same e.a s.from (sym (ap (λ (q : Step). q.from) walk)) in
            let other = not_start count es arranged v e along.entry same in record {
              spoke = record { entry = along.entry; at = inr same };
              far = ap (λ t. cond t e.b e.a) other ∙ sym (ap (λ (q : Step). q.from) walk);
              on_left = opposite (winding_above count es e) (winding_below count es e) first other;
              on_right = opposite (winding_below count es e) (winding_above count es e) first other;
            }

        back : s ≡ record { from = e.b; to = e.a } → Arrives v e s
        back walk =
            let same = sym (ap (λ (q : Step). q.to) walk) ∙ ends in
            let first = point_eq-of_same e.a v same in
            let other = not_start count es arranged s.from e along.entry (sym (ap (λ (q : Step). q.from) walk)) in
            record {
              spoke = record { entry = along.entry; at = inl same };
              far = ap (λ t. cond t e.b e.a) first ∙ sym (ap (λ (q : Step). q.from) walk);
              on_left = opposite_too (winding_above count es e) (winding_below count es e) other first;
              on_right = opposite_too (winding_below count es e) (winding_above count es e) other first;
            }

    -- a step that leaves is so too
    pub leaves : s.from ≡ v → Leaves v e s
    leaves starts = ⊎_elim forth back along.walks
      where
        forth : s ≡ record { from = e.a; to = e.b } → Leaves v e s
        forth walk =
            let at_from = sym (ap (λ (q : Step). q.from) walk) in
            let same = at_from ∙ starts in
            let first = point_eq-of_same e.a v same in record {
              spoke = record { entry = along.entry; at = inl same };
              far = ap (λ t. cond t e.b e.a) first ∙ sym (ap (λ (q : Step). q.to) walk);
              on_left = choose (winding_above count es e) (winding_below count es e) true
                  (point_eq-of_same e.a s.from at_from) first;
              on_right = choose (winding_below count es e) (winding_above count es e) true
                  (point_eq-of_same e.a s.from at_from) first;
            }

        back : s ≡ record { from = e.b; to = e.a } → Leaves v e s
        back walk =
            let at_from = sym (ap (λ (q : Step). q.from) walk) in
            let same = at_from ∙ starts in
            let other = not_start count es arranged v e along.entry same in record {
              spoke = record { entry = along.entry; at = inr same };
              far = ap (λ t. cond t e.b e.a) other ∙ sym (ap (λ (q : Step). q.to) walk);
              on_left = choose (winding_above count es e) (winding_below count es e) false
                  (not_start count es arranged s.from e along.entry at_from) other;
              on_right = choose (winding_below count es e) (winding_above count es e) false
                  (not_start count es arranged s.from e along.entry at_from) other;
            }

  module _ (v : Point) (e m f : CountedEdge) (spoke_e : IsSpoke es v e) (spoke_m : IsSpoke es v m)
      (spoke_f : IsSpoke es v f) where
    -- a point that a hand meets from f before e, the other hand meets from e before f
    pub turned_back : (hand : Hand) → IsMetBefore hand v (far_end v f) (far_end v m) (far_end v e) →
        IsMetBefore (other_hand hand) v (far_end v e) (far_end v m) (far_end v f)
    turned_back hand h = by (edge_eq (ends_of m) (ends_of f)) refl (edge_eq (ends_of m) (ends_of e)) refl
        (edge_eq (ends_of e) (ends_of f)) refl
      where
        one : (x y : CountedEdge) → IsSpoke es v x → IsSpoke es v y → edge_eq (ends_of x) (ends_of y) ≡ true → x ≡ y
        one x y sx sy same = one_entry es arranged.planar.distinct x y sx.entry sy.entry same

        by : (i : Bool) → edge_eq (ends_of m) (ends_of f) ≡ i → (j : Bool) → edge_eq (ends_of m) (ends_of e) ≡ j →
            (k : Bool) → edge_eq (ends_of e) (ends_of f) ≡ k →
            IsMetBefore (other_hand hand) v (far_end v e) (far_end v m) (far_end v f)
        by true mf j me k ef = absurd (false≢true (sym (start_is_last hand v (far_end v f) (far_end v e))
            ∙ subst (λ (x : CountedEdge). IsMetBefore hand v (far_end v f) (far_end v x) (far_end v e))
            (one m f spoke_m spoke_f mf) h))
        by false mf true me k ef = absurd
            (false≢true (sym (met_irreflexive hand v (far_end v f) (far_end v e))
            ∙ subst (λ (x : CountedEdge). IsMetBefore hand v (far_end v f) (far_end v x) (far_end v e))
            (one m e spoke_m spoke_e me) h))
        by false mf false me true ef = subst (λ (x : CountedEdge). IsMetBefore (other_hand hand) v (far_end v e)
            (far_end v m) (far_end v x)) (one e f spoke_e spoke_f ef)
            (met_after (other_hand hand) v (far_end v e) (far_end v e) (far_end v m)
            (far_apart count es arranged v e spoke_e)
            (apart_exchanged v (far_end v m) (far_end v e)
            (spokes_apart count es arranged v m e spoke_m spoke_e me))
            (start_is_last (other_hand hand) v (far_end v e) (far_end v m)))
        by false mf false me false ef =
            let m_f = spokes_apart count es arranged v m f spoke_m spoke_f mf in
            let m_e = spokes_apart count es arranged v m e spoke_m spoke_e me in
            let e_f = spokes_apart count es arranged v e f spoke_e spoke_f ef in
            met_shifted (other_hand hand) v (far_end v f) (far_end v e) (far_end v m)
            (record {
              one = apart_exchanged v (far_end v e) (far_end v f) e_f;
              two = apart_exchanged v (far_end v m) (far_end v e) m_e;
              three = m_f;
            })
            (met_by_other hand v (far_end v f) (far_end v m) (far_end v e)
            (record { one = apart_exchanged v (far_end v m) (far_end v f) m_f; two = m_e; three = e_f }) h)

  module _ (v : Point) (e f : CountedEdge) (s t : Step) (arriving : Arrives v e s) (leaving : Leaves v f t) where
    -- the winding on its side is equal, if the edges that a hand meets between them have count 0
    by_hand : (hand : Hand) → ((m : CountedEdge) → IsSpoke es v m → IsMetBefore hand v (far_end v e) (far_end v m)
        (far_end v f) → count m ≡ pos 0) →
        winding_on_side hand count es e s ≡ winding_on_side hand count es f t
    by_hand left nothing = arriving.on_left
        ∙ sym (one_winding_between_spokes count es arranged v f e leaving.spoke arriving.spoke
        (λ m spoke h. nothing m spoke (turned_back v e m f arriving.spoke spoke leaving.spoke right h)))
        ∙ sym leaving.on_left
    by_hand right nothing = arriving.on_right ∙ one_winding_between_spokes count es arranged v e f arriving.spoke
        leaving.spoke nothing ∙ sym leaving.on_right

-- from a step to the next the winding on the side of the hand is the same
pub one_winding_to_the_next_step : OneWindingToTheNextStep
one_winding_to_the_next_step count es arranged steps alternates counted hand s t at_s next e f along_e along_f =
    by_hand count es arranged s.to e f s t arriving leaving hand nothing
  where
    arriving : Arrives count es arranged s.to e s
    arriving = arrives count es arranged s.to e s along_e refl

    leaving : Leaves count es arranged s.to f t
    leaving = leaves count es arranged s.to f t along_f next.leaves

    between : (p r q : Point) → p ≡ s.from → q ≡ t.to → IsMetBefore hand s.to p r q →
        IsMetBefore hand s.to s.from r t.to
    between p r q far_p far_q h = subst (λ (x : Point). IsMetBefore hand s.to x r t.to) far_p
        (subst (λ (y : Point). IsMetBefore hand s.to p r y) far_q h)

    -- no step of the set is between
    none : (m : CountedEdge) → IsSpoke es s.to m → (u : Step) → Contains steps u → IsStepAlong es m u →
        IsMetBefore hand s.to s.from (far_end s.to m) t.to → ⊥
    none m spoke u at_u along h = ⊎_elim
        (λ ends. let own = arrives count es arranged s.to m u along ends in
        false≢true (sym ((next_is_one_to_one steps alternates hand).neighbours s t u at_s next at_u ends)
        ∙ subst (λ (r : Point). IsMetBefore hand s.to s.from r t.to) own.far h))
        (λ starts. let own = leaves count es arranged s.to m u along starts in
        false≢true (sym (All-contains (λ (w : Step). w.from ≡ s.to → is_met_before hand s.to s.from w.to t.to ≡ false)
        steps u next.first at_u starts) ∙ subst (λ (r : Point). IsMetBefore hand s.to s.from r t.to) own.far h))
        ends_or_starts
      where
        ends_or_starts : (u.to ≡ s.to) ⊎ (u.from ≡ s.to)
        ends_or_starts = ⊎_elim
            (λ walk. ⊎_elim (λ at_a. inr (ap (λ (q : Step). q.from) walk ∙ at_a))
            (λ at_b. inl (ap (λ (q : Step). q.to) walk ∙ at_b)) spoke.at)
            (λ walk. ⊎_elim (λ at_a. inl (ap (λ (q : Step). q.to) walk ∙ at_a))
            (λ at_b. inr (ap (λ (q : Step). q.from) walk ∙ at_b)) spoke.at)
            along.walks

    nothing : (m : CountedEdge) → IsSpoke es s.to m → IsMetBefore hand s.to (far_end s.to e) (far_end s.to m)
        (far_end s.to f) → count m ≡ pos 0
    nothing m spoke h = ⊎_elim (λ zero. zero)
        (λ step. absurd (none m spoke step.0 step.1 step.2
        (between (far_end s.to e) (far_end s.to m) (far_end s.to f) arriving.far leaving.far h)))
        (counted m spoke.entry)
