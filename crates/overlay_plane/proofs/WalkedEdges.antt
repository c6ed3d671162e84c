-- The edges of walks that can be bound: the anchors of a walk are equal, and one of the edges below it is the next.
use Rattle.std.proofs.Common.{◌≡◌, ◌⊎◌, inl, inr, ⊎_elim, Bool, true, false, ◌&&◌, ℤ, pos, List, Contains, All, filter}
use Rattle.std.proofs.Common.{refl, sym, ap₂, ◌∙◌, subst}
use Rattle.std.proofs.lemmas.Bool.{both_ways, and_from, and_parts, false_from_ne_true}
use Rattle.std.proofs.lemmas.List.Elements.{All-contains}
use Rattle.overlay_geom.specs.Plane.{Point, Step, Edge, edge_of, edge_eq, point_eq}
use Rattle.overlay_geom.specs.Plane.{point_lt}
use Rattle.overlay_geom.specs.Settled.{IsSettledBy, MeetInEnds}
use Rattle.overlay_geom.proofs.Orders.{edge_eq-same, edge_eq-flip, point_eq-same, point_lt-back}
use Rattle.overlay_plane.specs.Heights.{covers, is_under}
use Rattle.overlay_plane.specs.Contours.{is_filled_above, IsContour, all_steps}
use Rattle.overlay_plane.specs.Anchors.{IsAnchor, HasEachEdgeOnce, is_below_anchor, is_anchored_before}
use Rattle.overlay_plane.specs.Anchors.{IsNextBelow}
use Rattle.overlay_plane.specs.Binding.{filled_above_edges, all_filled_above}
use Rattle.overlay_plane.specs.Turn.{Hand}
use Rattle.overlay_plane.proofs.AnchorOrder.{anchored_before-itself}
use Rattle.overlay_plane.proofs.Anchors.{anchor_step}
use Rattle.overlay_plane.proofs.AnchorsLeadOn.{anchors_lead_on}
use Rattle.overlay_plane.proofs.BelowAnchors.{below_an_anchor_is_under}
use Rattle.overlay_plane.proofs.ContourSteps.{contour_long}
use Rattle.overlay_plane.proofs.Entries.{Contains-from_filter, Contains-from_map, Contains-flat_map}
use Rattle.overlay_plane.proofs.Entries.{Contains-from_flat_map}
use Rattle.overlay_plane.proofs.LongSteps.{long_leads_forward}
use Rattle.overlay_plane.proofs.LowerEdges.{lower_at_is_under}
use Rattle.overlay_plane.proofs.NextAnchors.{end_before, anchored_before}
use Rattle.overlay_plane.proofs.Under.{under_total}

module _ (walks : List (List Step)) (contours : All IsContour walks) (single : All HasEachEdgeOnce walks)
    (settled : IsSettledBy edge_of (all_steps walks)) where
  -- the edge of a step of the walks, which leads forward
  record IsOfWalks (e : Edge) : Type 0 where
    step : Step
    among : Contains (all_steps walks) step
    is : edge_of step ≡ e
    forward : point_lt e.a e.b ≡ true

  of_walk : (w : List Step) → Contains walks w → (s : Step) → Contains w s → (e : Edge) → edge_of s ≡ e → IsOfWalks e
  of_walk w at s c e is = record {
    step = s;
    among = Contains-flat_map (λ (v : List Step). v) walks w s at c;
    is = is;
    forward = subst (λ (f : Edge). point_lt f.a f.b ≡ true) is
        (long_leads_forward s (contour_long w (All-contains IsContour walks w contours at) s c));
  }

  -- two of them meet in ends alone, if they are not one
  meet : (e f : Edge) → IsOfWalks e → IsOfWalks f → edge_eq e f ≡ false → MeetInEnds e f
  meet e f of_e of_f differ = subst (λ g. MeetInEnds g f) of_e.is (subst (MeetInEnds (edge_of of_e.step)) of_f.is
      (settled of_e.step of_f.step of_e.among of_f.among (ap₂ edge_eq of_e.is of_f.is ∙ differ)))

  one_or_meet : (e f : Edge) → IsOfWalks e → IsOfWalks f → (edge_eq e f ≡ true) ⊎ MeetInEnds e f
  one_or_meet e f of_e of_f = by (edge_eq e f) refl
    where
      by : (t : Bool) → edge_eq e f ≡ t → (edge_eq e f ≡ true) ⊎ MeetInEnds e f
      by true same = inl same
      by false differ = inr (meet e f of_e of_f differ)

  -- two that cover an x-coordinate, neither of them under the other, are equal
  level_is_one : (e f : Edge) → IsOfWalks e → IsOfWalks f → (x : ℤ) → covers e x (pos 1) ≡ true →
      covers f x (pos 1) ≡ true →
      is_under e f x (pos 1) ≡ false → is_under f e x (pos 1) ≡ false → e ≡ f
  level_is_one e f of_e of_f x over_e over_f not_under not_over = by (edge_eq e f) refl
    where
      by : (t : Bool) → edge_eq e f ≡ t → e ≡ f
      by true same = edge_eq-same e f same
      by false differ = absurd (⊎_elim (λ under. both_ways (is_under e f x (pos 1)) not_under under)
          (λ over. both_ways (is_under f e x (pos 1)) not_over over)
          (under_total e f x (pos 1) (record { lt = tt }) (meet f e of_f of_e (edge_eq-flip e f differ)) over_e over_f))

  module _ (w : List Step) (at : Contains walks w) where
    -- an anchor is the edge of a step, and covers the x-coordinate in which it starts
    of_anchor : (e : Edge) → IsAnchor w e → IsOfWalks e
    of_anchor e anchor = let own = anchor_step w e anchor in of_walk w at own.0 own.1 e own.2

    leads_on : (e : Edge) → IsAnchor w e → covers e e.a.x (pos 1) ≡ true
    leads_on e anchor = anchors_lead_on w (All-contains IsContour walks w contours at)
        (All-contains HasEachEdgeOnce walks w single at)
        (λ s t c d. settled s t (Contains-flat_map (λ (v : List Step). v) walks w s at c)
        (Contains-flat_map (λ (v : List Step). v) walks w t at d)) e anchor

    -- below it is over its x-coordinate, and under it
    below_is : (e : Edge) → IsAnchor w e → (f : Edge) → IsOfWalks f →
        is_below_anchor e f ≡ (covers f e.a.x (pos 1) && is_under f e e.a.x (pos 1))
    below_is e anchor f of_f =
        let of_e = of_anchor e anchor in
        below_an_anchor_is_under e f of_e.forward of_f.forward (one_or_meet e f of_e of_f) (leads_on e anchor)

    -- no edge of the walk is below it
    none_below : (e : Edge) → IsAnchor w e → (s : Step) → Contains w s → is_below_anchor e (edge_of s) ≡ false
    none_below e anchor s c = false_from_ne_true (is_below_anchor e (edge_of s)) (λ below.
        both_ways (is_anchored_before e e) (anchored_before-itself e (of_anchor e anchor).forward)
        (anchored_before w (All-contains IsContour walks w contours at) e anchor s c e (of_anchor e anchor).forward
        below))

    -- nor does one start before it
    not_before : (e : Edge) → IsAnchor w e → (s : Step) → Contains w s → point_lt (edge_of s).a e.a ≡ false
    not_before e anchor s c = false_from_ne_true (point_lt (edge_of s).a e.a)
        (λ before. anchor.leftmost s c (end_before s e.a before))

    -- two anchors start in one point
    anchors_start : (e f : Edge) → IsAnchor w e → IsAnchor w f → e.a ≡ f.a
    anchors_start e f anchor other = by (point_eq e.a f.a) refl
      where
        own : (s : Step) × Contains w s × (edge_of s ≡ f)
        own = anchor_step w f other

        step : (s : Step) × Contains w s × (edge_of s ≡ e)
        step = anchor_step w e anchor

        f_not_before : point_lt f.a e.a ≡ false
        f_not_before = subst (λ (g : Edge). point_lt g.a e.a ≡ false) own.2 (not_before e anchor own.0 own.1)

        e_not_before : point_lt e.a f.a ≡ false
        e_not_before = subst (λ (g : Edge). point_lt g.a f.a ≡ false) step.2 (not_before f other step.0 step.1)

        by : (t : Bool) → point_eq e.a f.a ≡ t → e.a ≡ f.a
        by true same = point_eq-same e.a f.a same
        by false apart = absurd (both_ways (point_lt f.a e.a) f_not_before
            (point_lt-back e.a f.a apart e_not_before))

    -- one is not under the other
    not_under : (e f : Edge) → IsAnchor w e → IsAnchor w f → is_under f e e.a.x (pos 1) ≡ false
    not_under e f anchor other =
        let own = anchor_step w f other in
        let starts = anchors_start e f anchor other in
        let over : covers f e.a.x (pos 1) ≡ true
        = subst (λ (p : Point). covers f p.x (pos 1) ≡ true) (sym starts) (leads_on f other) in
        let none = subst (λ (g : Edge). is_below_anchor e g ≡ false) own.2 (none_below e anchor own.0 own.1) in
        false_from_ne_true (is_under f e e.a.x (pos 1)) (λ under. both_ways (is_below_anchor e f) none
        (below_is e anchor f (of_anchor f other) ∙ and_from (covers f e.a.x (pos 1)) (is_under f e e.a.x (pos 1)) over
        under))

    -- the two are equal
    pub one_anchor : (e f : Edge) → IsAnchor w e → IsAnchor w f → e ≡ f
    one_anchor e f anchor other =
        let starts = anchors_start e f anchor other in
        level_is_one e f (of_anchor e anchor) (of_anchor f other) e.a.x (leads_on e anchor)
        (subst (λ (p : Point). covers f p.x (pos 1) ≡ true) (sym starts) (leads_on f other))
        (subst (λ (p : Point). is_under e f p.x (pos 1) ≡ false) (sym starts) (not_under f e other anchor))
        (not_under e f anchor other)

    module _ (filled : Hand) where
      -- a filled-above edge is that of a step
      of_filled : (f : Edge) → Contains (all_filled_above filled walks) f → IsOfWalks f
      of_filled f c =
          let walk = Contains-from_flat_map (filled_above_edges filled) walks f c in
          let found = Contains-from_map edge_of (filter (is_filled_above filled) walk.0) f walk.2 in
          of_walk walk.0 walk.1 found.0 (Contains-from_filter (is_filled_above filled) walk.0 found.0 found.1).0 f
          found.2

      -- of two next edges neither is under the other, so they are equal
      pub one_next_edge : (e : Edge) → IsAnchor w e → (f g : Edge) → IsNextBelow (all_filled_above filled walks) e f →
          IsNextBelow (all_filled_above filled walks) e g → f ≡ g
      one_next_edge e anchor f g first second =
          let of_f = of_filled f first.among in
          let of_g = of_filled g second.among in
          let over_f = (and_parts (covers f e.a.x (pos 1)) (is_under f e e.a.x (pos 1))
          (sym (below_is e anchor f of_f) ∙ first.below)).0 in
          let over_g = (and_parts (covers g e.a.x (pos 1)) (is_under g e e.a.x (pos 1))
          (sym (below_is e anchor g of_g) ∙ second.below)).0 in
          level_is_one f g of_f of_g e.a.x over_f over_g
          (sym (lower_at_is_under f g (one_or_meet f g of_f of_g) e.a.x over_f over_g)
          ∙ first.greatest g second.among second.below)
          (sym (lower_at_is_under g f (one_or_meet g f of_g of_f) e.a.x over_g over_f)
          ∙ second.greatest f first.among first.below)
