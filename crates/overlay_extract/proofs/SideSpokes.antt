-- Steps along edges as spokes of the nodes where they arrive and leave, and the windings on their sides.
use Rattle.std.proofs.Common.{◌≡◌, inl, inr, ⊎_elim, ℤ, List, Contains, refl, sym}
use Rattle.std.proofs.Common.{ap, ◌∙◌}
use Rattle.overlay_geom.specs.Plane.{Point, Step, reversed_step}
use Rattle.overlay_geom.specs.Edges.{CountedEdge, ends_of}
use Rattle.overlay_plane.specs.Turn.{Hand, other_hand, IsMetBefore}
use Rattle.overlay_plane.specs.Turn.Hand.{left, right}
use Rattle.overlay_plane.specs.Nodes.{IsBalancedArrangement}
use Rattle.overlay_plane.specs.Spokes.{IsSpoke, far_end}
use Rattle.overlay_plane.specs.WindingsBeside.{IsStepAlong, winding_on_side}
use Rattle.overlay_plane.proofs.SameWay.{ends_differ}
use Rattle.overlay_plane.proofs.SpokeWindings.{forward_entry}
use Rattle.overlay_plane.proofs.RoundNodes.{one_winding_between_spokes}
pub use Rattle.overlay_plane.proofs.NextWindings.{Arrives, Leaves, arrives, leaves, turned_back}

module _ (count : CountedEdge → ℤ) (es : List CountedEdge) (arranged : IsBalancedArrangement count es) where
  -- the ends of an entry are different points
  pub ends_apart : (e : CountedEdge) → Contains es e → ¬ (e.a ≡ e.b)
  ends_apart e at = ends_differ (ends_of e) (forward_entry count es arranged e at)

  module _ (v : Point) (e : CountedEdge) (s : Step) (along : IsStepAlong es e s) where
    -- the step has a length
    pub long : ¬ (s.from ≡ s.to)
    long same = ⊎_elim (λ walk. ends_apart e along.entry (sym (ap (λ (q : Step). q.from) walk) ∙ same
        ∙ ap (λ (q : Step). q.to) walk))
        (λ walk. ends_apart e along.entry (sym (ap (λ (q : Step). q.to) walk) ∙ sym same
        ∙ ap (λ (q : Step). q.from) walk)) along.walks

    -- the step back is along the edge too
    pub along_back : IsStepAlong es e (reversed_step s)
    along_back = record {
      entry = along.entry;
      walks = ⊎_elim (λ walk. inr (ap reversed_step walk)) (λ walk. inl (ap reversed_step walk)) along.walks;
    }

  -- the step back has by the other hand the side that the step has by the hand
  pub side_of_back : (e : CountedEdge) (s : Step) → IsStepAlong es e s → (hand : Hand) →
      winding_on_side (other_hand hand) count es e (reversed_step s) ≡ winding_on_side hand count es e s
  side_of_back e s along left = (arrives count es arranged s.from e (reversed_step s) (along_back s.from e s along)
      refl).on_right
      ∙ sym (leaves count es arranged s.from e s along refl).on_left
  side_of_back e s along right = (arrives count es arranged s.from e (reversed_step s) (along_back s.from e s along)
      refl).on_left
      ∙ sym (leaves count es arranged s.from e s along refl).on_right

  -- along a spoke there is a step that leaves
  pub step_leaving : (v : Point) (e : CountedEdge) → IsSpoke es v e →
      (t : Step) × IsStepAlong es e t × (t.from ≡ v)
  step_leaving v e spoke = ⊎_elim
      (λ at_a. (record { from = e.a; to = e.b }, record { entry = spoke.entry; walks = inl refl }, at_a))
      (λ at_b. (record { from = e.b; to = e.a }, record { entry = spoke.entry; walks = inr refl }, at_b)) spoke.at

  -- two steps along one edge that begin in one point are one
  pub one_step_from : (e : CountedEdge) (s t : Step) → IsStepAlong es e s → IsStepAlong es e t → s.from ≡ t.from →
      s ≡ t
  one_step_from e s t along_s along_t same = ⊎_elim
      (λ forth. ⊎_elim (λ forth'. forth ∙ sym forth')
      (λ back. absurd (ends_apart e along_s.entry (sym (ap (λ (q : Step). q.from) forth) ∙ same
      ∙ ap (λ (q : Step). q.from) back))) along_t.walks)
      (λ back. ⊎_elim (λ forth. absurd (ends_apart e along_s.entry (sym (sym (ap (λ (q : Step). q.from) back) ∙ same
      ∙ ap (λ (q : Step). q.from) forth))))
      (λ back'. back ∙ sym back') along_t.walks) along_s.walks

  module _ (v : Point) (e f : CountedEdge) (s t : Step) (arriving : Arrives count es arranged v e s)
      (leaving : Leaves count es arranged v f t) where
    -- where the hand meets no spoke between them, the winding on its side is the same
    pub beside_both : (hand : Hand) → ((m : CountedEdge) → IsSpoke es v m →
        ¬ (IsMetBefore hand v (far_end v e) (far_end v m) (far_end v f))) →
        winding_on_side hand count es e s ≡ winding_on_side hand count es f t
    beside_both left nothing = arriving.on_left
        ∙ sym (one_winding_between_spokes count es arranged v f e leaving.spoke arriving.spoke
        (λ m spoke h. absurd (nothing m spoke
        (turned_back count es arranged v e m f arriving.spoke spoke leaving.spoke right h))))
        ∙ sym leaving.on_left
    beside_both right nothing = arriving.on_right ∙ one_winding_between_spokes count es arranged v e f arriving.spoke
        leaving.spoke (λ m spoke h. absurd (nothing m spoke h)) ∙ sym leaving.on_right
