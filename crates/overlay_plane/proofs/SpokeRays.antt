-- Spokes of a node as rays: their far ends differ from the node, and spokes on one ray are equal.
use Rattle.std.proofs.Common.{◌≡◌, Bool, true, false, cond, ℤ, pos, neg_ℤ, ◌<ℤ◌, List, refl, sym, ◌∙◌, subst}
use Rattle.std.proofs.lemmas.Bool.{false≢true}
use Rattle.overlay_geom.specs.Plane.{Point, point_eq, edge_eq}
use Rattle.overlay_geom.specs.Edges.{CountedEdge, ends_of}
use Rattle.overlay_geom.proofs.Signs.{linear}
use Rattle.overlay_geom.proofs.Orders.{point_eq-same}
use Rattle.overlay_plane.specs.Alternates.{AreOneWay}
use Rattle.overlay_plane.specs.Rays.{Apart}
use Rattle.overlay_plane.specs.Nodes.{IsBalancedArrangement, edge_turn}
use Rattle.overlay_plane.specs.Spokes.{IsSpoke, far_end}
use Rattle.overlay_plane.proofs.SameWay.{ends_differ, same_from_start, same_from_end}
use Rattle.overlay_plane.proofs.SingleEntries.{one_entry}
use Rattle.overlay_plane.proofs.EdgeTurns.{IsForward, edge_dot, level_ahead}
use Rattle.overlay_plane.proofs.SpokeSigns.{alike, signed}
use Rattle.overlay_plane.proofs.SpokeTurns.{along, cross_is, dot_is}
use Rattle.overlay_plane.proofs.SpokeWindings.{forward_entry, ends_there}

module _ (count : CountedEdge → ℤ) (es : List CountedEdge) (arranged : IsBalancedArrangement count es) (v : Point) where
  -- the far end of a spoke is not the node
  pub far_apart : (e : CountedEdge) → IsSpoke es v e → ¬ (far_end v e ≡ v)
  far_apart e spoke = by (point_eq e.a v) refl
    where
      forward : IsForward (ends_of e)
      forward = forward_entry count es arranged e spoke.entry

      by : (h : Bool) → point_eq e.a v ≡ h → ¬ (cond h e.b e.a ≡ v)
      by true starts far = ends_differ (ends_of e) forward (point_eq-same e.a v starts ∙ sym far)
      by false other far = ends_differ (ends_of e) forward (far ∙ sym (ends_there es v e spoke other))

  module _ (e f : CountedEdge) (spoke_e : IsSpoke es v e) (spoke_f : IsSpoke es v f) where
    -- spokes on one ray have the same ends
    pub same_ray : AreOneWay v (far_end v e) (far_end v f) → edge_eq (ends_of e) (ends_of f) ≡ true
    same_ray one = by (point_eq e.a v) (point_eq f.a v) refl refl
        (sym (cross_is v (far_end v e) (far_end v f) (ends_of e) (ends_of f) (point_eq e.a v) (point_eq f.a v)
        (along v e spoke_e.at) (along v f spoke_f.at)) ∙ one.on_line)
        (subst (λ z. pos 0 <ℤ z) (dot_is v (far_end v e) (far_end v f) (ends_of e) (ends_of f) (point_eq e.a v)
        (point_eq f.a v) (along v e spoke_e.at) (along v f spoke_f.at)) one.ahead)
      where
        forward_e : IsForward (ends_of e)
        forward_e = forward_entry count es arranged e spoke_e.entry

        forward_f : IsForward (ends_of f)
        forward_f = forward_entry count es arranged f spoke_f.entry

        against : neg_ℤ (edge_turn (ends_of e) (ends_of f)) ≡ pos 0 →
            pos 0 <ℤ neg_ℤ (edge_dot (ends_of e) (ends_of f)) → ⊥
        against level ahead = let more = level_ahead (ends_of e) (ends_of f) forward_e forward_f (omega linear) in
            omega linear

        by : (h k : Bool) → point_eq e.a v ≡ h → point_eq f.a v ≡ k →
            signed (alike h k) (edge_turn (ends_of e) (ends_of f)) ≡ pos 0 →
            pos 0 <ℤ signed (alike h k) (edge_dot (ends_of e) (ends_of f)) → edge_eq (ends_of e) (ends_of f) ≡ true
        by true true he hf level ahead = same_from_start (ends_of e) (ends_of f) forward_e forward_f level
            (arranged.planar.settled e f spoke_e.entry spoke_f.entry)
            (point_eq-same e.a v he ∙ sym (point_eq-same f.a v hf))
        by true false he hf level ahead = absurd (against level ahead)
        by false true he hf level ahead = absurd (against level ahead)
        by false false he hf level ahead = same_from_end (ends_of e) (ends_of f) forward_e forward_f level
            (arranged.planar.settled e f spoke_e.entry spoke_f.entry) (ends_there es v e spoke_e he
            ∙ sym (ends_there es v f spoke_f hf))

    -- such spokes are equal
    pub one_ray_one_spoke : AreOneWay v (far_end v e) (far_end v f) → e ≡ f
    one_ray_one_spoke one = one_entry es arranged.planar.distinct e f spoke_e.entry spoke_f.entry (same_ray one)

    -- other spokes lie apart
    pub spokes_apart : edge_eq (ends_of e) (ends_of f) ≡ false → Apart v (far_end v e) (far_end v f)
    spokes_apart differ = record {
      first = far_apart e spoke_e;
      second = far_apart f spoke_f;
      other_ways =
          λ one. false≢true (sym differ ∙ same_ray one);
    }
