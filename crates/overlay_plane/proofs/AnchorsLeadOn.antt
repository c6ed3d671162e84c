-- The anchor of a contour that walks along each edge once is not vertical. Two of its edges start in the anchor's
-- point. If the lowest were vertical, so would be the other, and the two would be equal.
use Rattle.std.proofs.Common.{◌≡◌, ◌⊎◌, inl, inr, ⊎_elim, Bool, true, false, pos, ◌<ℤ◌, ◌≤ℤ◌}
use Rattle.std.proofs.Common.{List, Contains, refl, sym, ap, ◌∙◌, subst}
use Rattle.std.proofs.lemmas.Int.{by_lt_z}
use Rattle.std.proofs.lemmas.Bool.{both_ways}
use Rattle.overlay_geom.specs.Plane.{Point, Step, Edge, point_lt, edge_eq, is_forward, edge_of}
use Rattle.overlay_geom.specs.Settled.{IsSettledBy}
use Rattle.overlay_geom.proofs.Signs.{linear, mul-zero, mul-nonneg}
use Rattle.overlay_geom.proofs.Orders.{edge_eq-flip}
use Rattle.overlay_plane.specs.Heights.{width, covers}
use Rattle.overlay_plane.specs.Nodes.{edge_turn}
use Rattle.overlay_plane.specs.LeftmostSteps.{StepHasEndBefore}
use Rattle.overlay_plane.specs.Contours.{IsContour}
use Rattle.overlay_plane.specs.Anchors.{IsAnchor, HasEachEdgeOnce, AnchorsLeadOn}
use Rattle.overlay_plane.proofs.Tests.{ge_from_test}
use Rattle.overlay_plane.proofs.LaterEntries.{Each-from_all_pairs, either_way}
use Rattle.overlay_plane.proofs.EdgesOfSteps.{edge_by}
use Rattle.overlay_plane.proofs.EdgeTurns.{rise, not_narrower}
use Rattle.overlay_plane.proofs.NodeStarts.{rises_upright}
use Rattle.overlay_plane.proofs.SameWay.{same_from_start}
use Rattle.overlay_plane.proofs.LongSteps.{larger_otherwise, long_leads_forward}
use Rattle.overlay_plane.proofs.ContourSteps.{contour_long, step_after, step_before}
use Rattle.overlay_plane.proofs.Anchors.{anchor_step}
use Rattle.overlay_plane.proofs.WhereEdgesStart.{covers_start}

-- a step with an end in v, and none before it, walks along an edge that starts in v
starts_at : (v : Point) (t : Step) → ¬ (t.from ≡ t.to) → ¬ (StepHasEndBefore v t) → (t.from ≡ v) ⊎ (t.to ≡ v) →
    (edge_of t).a ≡ v
starts_at v t long none ends = by (is_forward t) refl ends
  where
    by : (b : Bool) → is_forward t ≡ b → (t.from ≡ v) ⊎ (t.to ≡ v) → (edge_by b t).a ≡ v
    by true forward (inl from) = from
    by true forward (inr to) = absurd (none (inl (subst (λ (p : Point). point_lt t.from p ≡ true) to forward)))
    by false back (inl from) = absurd
        (none (inr (subst (λ (p : Point). point_lt t.to p ≡ true) from (larger_otherwise t.from t.to long back))))
    by false back (inr to) = to

module _ (walk : List Step) (contour : IsContour walk) (s : Step) (c : Contains walk s)
    (anchor : IsAnchor walk (edge_of s)) where
  -- another step walks along an edge that starts where the anchor does: the step before, or the step after
  other_step : (t : Step) × Contains walk t × ((edge_of t).a ≡ (edge_of s).a) × ¬ (s ≡ t)
  other_step = by (is_forward s) refl
    where
      starts : (t : Step) → Contains walk t → (t.from ≡ (edge_of s).a) ⊎ (t.to ≡ (edge_of s).a) →
          (edge_of t).a ≡ (edge_of s).a
      starts t d ends = starts_at (edge_of s).a t (contour_long walk contour t d) (anchor.leftmost t d) ends

      own : (b : Bool) → is_forward s ≡ b → (edge_of s).a ≡ (edge_by b s).a
      own b is = ap (λ z. (edge_by z s).a) is

      by : (b : Bool) → is_forward s ≡ b → (t : Step) × Contains walk t × ((edge_of t).a ≡ (edge_of s).a) × ¬ (s ≡ t)
      by true is =
          let t = step_before walk contour s c in (
            t.0,
            t.1,
            starts t.0 t.1 (inr (t.2 ∙ sym (own true is))),
            λ same. contour_long walk contour s c (sym t.2 ∙ sym (ap (λ (u : Step). u.to) same)),
          )
      by false is =
          let t = step_after walk contour s c in (
            t.0,
            t.1,
            starts t.0 t.1 (inl (t.2 ∙ sym (own false is))),
            λ same. contour_long walk contour s c (ap (λ (u : Step). u.from) same ∙ t.2),
          )

  module _ (once : HasEachEdgeOnce walk) (settled : IsSettledBy edge_of walk) where
    -- its edge differs from the anchor
    other_edge : edge_eq (edge_of other_step.0) (edge_of s) ≡ false
    other_edge = ⊎_elim (λ before. edge_eq-flip (edge_of s) (edge_of other_step.0) before) (λ after. after)
        (either_way (λ t u. edge_eq (edge_of t) (edge_of u) ≡ false) walk
        (Each-from_all_pairs (λ t u. edge_eq (edge_of t) (edge_of u) ≡ false) walk once)
        s other_step.0 c other_step.1 other_step.3)

    -- the anchor is not vertical
    wide : pos 0 <ℤ width (edge_of s)
    wide = by_lt_z (pos 0) (width (edge_of s)) (λ lt. lt) (λ narrow. absurd (against narrow))
      where
        e : Edge
        e = edge_of s

        f : Edge
        f = edge_of other_step.0

        forward_e : point_lt e.a e.b ≡ true
        forward_e = long_leads_forward s (contour_long walk contour s c)

        forward_f : point_lt f.a f.b ≡ true
        forward_f = long_leads_forward other_step.0 (contour_long walk contour other_step.0 other_step.1)

        level : width e ≤ℤ pos 0 → edge_turn f e ≡ pos 0
        level narrow =
            let lowest = ge_from_test (pos 0) (edge_turn f e) (anchor.lowest other_step.0 other_step.1 other_step.2) in
            let up = rises_upright e forward_e narrow in
            let not_below = mul-nonneg (width f) (rise e) (not_narrower f forward_f) (omega linear) in
            let zero_width = not_narrower e forward_e in
            let none = mul-zero (rise f) (width e) (omega linear) in
            omega linear

        against : width e ≤ℤ pos 0 → ⊥
        against narrow = both_ways (edge_eq f e) other_edge
            (same_from_start f e forward_f forward_e (level narrow) (settled other_step.0 s other_step.1 c)
            other_step.2)

-- the anchor covers the x-coordinate of its start
pub anchors_lead_on : AnchorsLeadOn
anchors_lead_on walk contour once settled e anchor =
    let own = anchor_step walk e anchor in
    subst (λ (f : Edge). IsAnchor walk f → covers f f.a.x (pos 1) ≡ true) own.2
    (λ a. covers_start (edge_of own.0) (let w = wide walk contour own.0 own.1 a once settled in omega linear)) anchor
