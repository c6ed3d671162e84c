-- Below the anchor of a hole is a filled-above edge: the rule holds just below the anchor's edge, so the signs of the
-- edges under it add up to 1.
use Rattle.std.proofs.Common.{◌≡◌, Bool, true, false, cond, ◌&&◌, ℤ, pos, ◌<ℤ◌, List, Contains, refl, sym, ap, ◌∙◌}
use Rattle.std.proofs.Common.{subst}
use Rattle.std.proofs.lemmas.List.Elements.{All-contains}
use Rattle.overlay_geom.specs.Plane.{Step, Edge, edge_of}
use Rattle.overlay_geom.specs.Edges.{CountedEdge, ends_of}
use Rattle.overlay_geom.proofs.Signs.{linear}
use Rattle.overlay_plane.specs.Heights.{covers, is_under}
use Rattle.overlay_plane.specs.Regions.{holds_above, holds_below, one_if, selected_sign}
use Rattle.overlay_plane.specs.SelectedSteps.{selected_steps}
use Rattle.overlay_plane.specs.Contours.{IsContour}
use Rattle.overlay_plane.specs.Anchors.{IsAnchor, HasEachEdgeOnce, is_below_anchor}
use Rattle.overlay_plane.specs.Binding.{is_hole, all_filled_above, AreCutFrom}
use Rattle.overlay_plane.specs.Turn.{Hand}
use Rattle.overlay_plane.proofs.AnchorsLeadOn.{anchors_lead_on}
use Rattle.overlay_plane.proofs.BelowAnchors.{below_an_anchor_is_under}
use Rattle.overlay_plane.proofs.FilledEdges.{selected_follow}
use Rattle.overlay_plane.proofs.Entries.{Contains-flat_map, Contains-from_map}
use Rattle.overlay_plane.proofs.RegionBelow.{region_below_an_edge}
use Rattle.overlay_plane.proofs.RisesRound.{some_positive}
use Rattle.overlay_plane.proofs.RuledWalks.{FollowRule, IsFilledBeside, edge_listed, one_or_meet}
use Rattle.overlay_plane.proofs.SelectedAlternate.{one_if_rises}
use Rattle.overlay_plane.proofs.WalksApart.{own_walk, have_selected}
use Rattle.overlay_plane.proofs.WalksOfCuts.{IsEdgeOf, edge_forward}
use Rattle.overlay_plane.proofs.HoleWindings.{HasEmptyAbove, empty_above_anchor}

-- a number that is taken and above 0
pub positive_taken : (t : Bool) (z : ℤ) → pos 0 <ℤ cond t z (pos 0) → (t ≡ true) × (pos 0 <ℤ z)
positive_taken true z h = (refl, h)
positive_taken false z h = absurd (omega linear)

module _ (holds : ℤ → ℤ → Bool) (subj clip : CountedEdge → ℤ) (es : List CountedEdge) (filled : Hand)
    (walks : List (List Step)) (follow : FollowRule holds subj clip es filled walks) (walk : List Step)
    (at : Contains walks walk) (anchor : Edge) (anchored : IsAnchor walk anchor) where
  -- the anchor is an edge of the list
  pub anchor_of_list : IsEdgeOf es anchor
  anchor_of_list =
      let found = Contains-from_map edge_of walk anchor anchored.among in
      subst (IsEdgeOf es) found.2 (edge_listed holds subj clip es filled walks follow walk at found.0 found.1)

  -- the edge covers the x-coordinate of its point
  pub anchor_covers : covers anchor anchor.a.x (pos 1) ≡ true
  anchor_covers = anchors_lead_on walk (All-contains IsContour walks walk follow.bindable.contours at)
      (All-contains HasEachEdgeOnce walks walk follow.bindable.single at)
      (λ s t c d. follow.bindable.settled s t (Contains-flat_map (λ (w : List Step). w) walks walk s at c)
      (Contains-flat_map (λ (w : List Step). w) walks walk t at d)) anchor anchored

  -- an edge of the list is below it exactly where it is under its edge
  pub below_is : (g : Edge) → IsEdgeOf es g →
      is_below_anchor anchor g ≡ (covers g anchor.a.x (pos 1) && is_under g anchor anchor.a.x (pos 1))
  below_is g of_g = below_an_anchor_is_under anchor g
      (edge_forward holds subj clip es follow.ruled anchor anchor_of_list)
      (edge_forward holds subj clip es follow.ruled g of_g)
      (one_or_meet holds subj clip es filled walks follow anchor g anchor_of_list of_g) anchor_covers

  module _ (empty : HasEmptyAbove filled walk anchor) where
    -- where its edge has its empty side above, the rule holds just below it
    pub own : IsFilledBeside holds subj clip es filled empty.step
    own = follow.beside empty.step (Contains-flat_map (λ (w : List Step). w) walks walk empty.step at empty.among)

    abbrev e : CountedEdge
    e = own.entry

    pub anchor_is : anchor ≡ ends_of e
    anchor_is = sym empty.along ∙ own.ends

    pub holds_there : holds_below holds subj clip es e ≡ true
    holds_there = subst (λ t. cond t (holds_above holds subj clip es e) (holds_below holds subj clip es e) ≡ true)
        empty.empty own.there

    pub anchor_over : covers (ends_of e) anchor.a.x (pos 1) ≡ true
    anchor_over = subst (λ (k : Edge). covers k anchor.a.x (pos 1) ≡ true) anchor_is anchor_covers

    -- so an edge with a positive sign is under it
    under : (f : CountedEdge) × Contains es f ×
        (pos 0 <ℤ cond (covers (ends_of f) anchor.a.x (pos 1) && is_under (ends_of f) (ends_of e) anchor.a.x (pos 1))
        (selected_sign holds subj clip es f) (pos 0))
    under = some_positive (λ f. cond (covers (ends_of f) anchor.a.x (pos 1) && is_under (ends_of f)
        (ends_of e) anchor.a.x (pos 1))
        (selected_sign holds subj clip es f) (pos 0)) es
        (subst (λ z. pos 0 <ℤ z) (sym (region_below_an_edge holds subj clip es follow.ruled e own.among anchor.a.x
        (pos 1) (record { lt = tt }) anchor_over ∙ ap one_if holds_there)) (record { lt = tt }))

    abbrev lower : Edge
    lower = ends_of under.0

    parts : ((covers lower anchor.a.x (pos 1) && is_under lower (ends_of e) anchor.a.x (pos 1)) ≡ true) ×
        (pos 0 <ℤ selected_sign holds subj clip es under.0)
    parts = positive_taken (covers lower anchor.a.x (pos 1) && is_under lower (ends_of e) anchor.a.x (pos 1))
        (selected_sign holds subj clip es under.0) under.2

    -- above it the rule holds, and not below it
    rises : (holds_above holds subj clip es under.0 ≡ true) × (holds_below holds subj clip es under.0 ≡ false)
    rises = one_if_rises (holds_above holds subj clip es under.0) (holds_below holds subj clip es under.0) parts.1

    -- so a filled-above edge is below the anchor
    pub some_below : (g : Edge) × Contains (all_filled_above filled walks) g × (is_below_anchor anchor g ≡ true)
    some_below = (
      lower,
      follow.rising under.0 under.1 rises.0 rises.1,
      below_is lower (record { entry = under.0; among = under.1; ends = refl })
          ∙ ap (λ k. covers lower anchor.a.x (pos 1) && is_under lower k anchor.a.x (pos 1)) anchor_is
          ∙ parts.0,
    )

-- some filled-above edge is below a hole of a cut of selected steps
pub below_cut_hole : (holds : ℤ → ℤ → Bool) (subj clip : CountedEdge → ℤ) (es : List CountedEdge) (filled : Hand)
    (walks : List (List Step)) → AreCutFrom holds subj clip es filled walks → (walk : List Step) →
    Contains walks walk → (anchor : Edge) → IsAnchor walk anchor → is_hole filled walk ≡ true →
    (g : Edge) × Contains (all_filled_above filled walks) g × (is_below_anchor anchor g ≡ true)
below_cut_hole holds subj clip es filled walks cut walk at anchor anchored hole =
    some_below holds subj clip es filled walks
    (selected_follow holds subj clip es filled walks (have_selected holds subj clip es filled walks cut)) walk at anchor
    anchored
    (empty_above_anchor es filled (selected_steps holds subj clip filled es) walk
    (own_walk holds subj clip es filled walks cut walk at) hole anchor anchored)
