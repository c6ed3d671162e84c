-- Loops of filled sides follow the rule that the winding is filled, and a hole among them has its empty side above its
-- anchor.
use Rattle.std.proofs.Common.{◌≡◌, inl, ⊎_elim, Bool, true, false, cond, ℤ, pos, List, Contains, refl, sym, ap}
use Rattle.std.proofs.Common.{◌∙◌, subst}
use Rattle.std.proofs.lemmas.Bool.{both_ways}
use Rattle.std.proofs.lemmas.List.Elements.{All-contains}
use Rattle.overlay_geom.specs.Plane.{Step, Edge, edge_of, midpoint, point_lt, is_forward}
use Rattle.overlay_geom.specs.Edges.{CountedEdge, ends_of, winding_by, winding_below, winding_above}
use Rattle.overlay_plane.specs.Anchors.{IsAnchor}
use Rattle.overlay_plane.specs.Binding.{all_filled_above}
use Rattle.overlay_plane.specs.BoundContours.{walks_in}
use Rattle.overlay_plane.specs.Contours.{all_steps, IsContour}
use Rattle.overlay_plane.specs.KeptContours.{CanBeBound}
use Rattle.overlay_plane.specs.Nodes.{IsBalancedArrangement}
use Rattle.overlay_plane.specs.RoledContours.{Contour, is_outline, free_hole}
use Rattle.overlay_plane.specs.SelectedSteps.{step_with_left}
use Rattle.overlay_plane.specs.Turn.Hand.{left}
use Rattle.overlay_plane.specs.WindingsBeside.{winding_on_side}
use Rattle.overlay_plane.proofs.Anchors.{anchor_forward}
use Rattle.overlay_plane.proofs.Entries.{Contains-map}
use Rattle.overlay_plane.proofs.LostHoles.{HaveEmptyAbove}
use Rattle.overlay_plane.proofs.PlacesOfContours.{Contains-place}
use Rattle.overlay_plane.proofs.RuledWalks.{FollowRule, IsFilledBeside, above_kept}
use Rattle.overlay_plane.proofs.SelectedWindings.{along_edge, forward_above}
use Rattle.overlay_plane.proofs.SplitLists.{filter-all}
use Rattle.overlay_plane.proofs.SpokeWindings.{forward_entry}
use Rattle.overlay_plane.proofs.WalkedEdges.{one_anchor}
use Rattle.overlay_extract.specs.Bound.{PassesAnchor, HaveRoles}
use Rattle.overlay_extract.specs.FilledSides.{filled_sides, IsFilledSide}
use Rattle.overlay_extract.specs.Loops.{AreLoops}
use Rattle.overlay_extract.proofs.BoundLoops.{loops_can_be_bound, one_way}
use Rattle.overlay_extract.proofs.LoopWindings.{side_of_orbit, other_way}
use Rattle.overlay_extract.proofs.RoledLoops.{role_passes}
use Rattle.overlay_extract.proofs.SideLists.{sides_listed, left_of_along, left_of_back, edge_of_along}
use Rattle.overlay_extract.proofs.SideWindings.{by_first, ruled}

-- a step of a loop is a side
pub side_of_loop : (sides : List Step) (loops : List (List Step)) → AreLoops sides loops → (s : Step) →
    Contains (all_steps loops) s → Contains sides s
side_of_loop sides loops are s c = All-contains (Contains sides) (all_steps loops) s are.are_sides c

module _ (fills : ℤ → Bool) (count : CountedEdge → ℤ) (es : List CountedEdge)
    (arranged : IsBalancedArrangement count es) (empty : fills (pos 0) ≡ false) where
  abbrev sides : List Step
  sides = filled_sides fills count es

  module _ (s : Step) (side : IsFilledSide fills count es left s) where
    abbrev e : CountedEdge
    e = side.edge

    leads : point_lt e.a e.b ≡ true
    leads = forward_entry count es arranged e side.along.entry

    -- on the filled side of a side the winding is filled
    filled_beside : IsFilledBeside (by_first fills) count count es left s
    filled_beside = record {
      entry = e;
      among = side.along.entry;
      ends = edge_of_along fills count es arranged e s side.along;
      there = ⊎_elim
          (λ forth. ap (λ t. cond t (fills (winding_above count es e)) (fills (winding_below count es e)))
          (ap is_forward forth ∙ forward_above (ends_of e) leads true)
          ∙ sym (ap fills (left_of_along fills count es arranged e side.along.entry))
          ∙ ap (λ t. fills (winding_on_side left count es e t)) (sym forth) ∙ side.filled)
          (λ back. ap (λ t. cond t (fills (winding_above count es e)) (fills (winding_below count es e)))
          (ap is_forward back ∙ forward_above (ends_of e) leads false)
          ∙ sym (ap fills (left_of_back fills count es arranged e side.along.entry))
          ∙ ap (λ t. fills (winding_on_side left count es e t)) (sym back) ∙ side.filled)
          side.along.walks;
    }

  beside : (s : Step) → Contains sides s → IsFilledBeside (by_first fills) count count es left s
  beside s c = filled_beside s ((sides_listed fills count es arranged).sides s c)

  module _ (loops : List (List Step)) (are : AreLoops sides loops) where
    can : CanBeBound left loops
    can = subst (CanBeBound left) (filter-all loops) (loops_can_be_bound fills count es arranged loops are (λ w. true))

    module _ (f : CountedEdge) (at : Contains es f) (above : fills (winding_above count es f) ≡ true) where
      -- the step along an edge that is filled above, and the step back
      abbrev forth : Step
      forth = step_with_left true (ends_of f)

      abbrev back : Step
      back = step_with_left false (ends_of f)

      forward : point_lt f.a f.b ≡ true
      forward = forward_entry count es arranged f at

      forth_side : Contains sides forth
      forth_side = (sides_listed fills count es arranged).all forth (record {
        edge = f;
        along = record { entry = at; walks = inl refl };
        filled = ap fills (left_of_along fills count es arranged f at) ∙ above;
      })

      kept : Contains (all_steps loops) forth → Contains (all_filled_above left loops) (ends_of f)
      kept c = subst (Contains (all_filled_above left loops)) (along_edge (ends_of f) forward true)
          (above_kept left loops forth c (forward_above (ends_of f) forward true))

      -- it is left out only with the step back
      rising : fills (winding_below count es f) ≡ false → Contains (all_filled_above left loops) (ends_of f)
      rising below = ⊎_elim kept
          (λ one. absurd (against (beside back (side_of_orbit sides back forth (other_way sides forth back one)))))
          (are.taken forth forth_side)
        where
          against : ¬ (IsFilledBeside (by_first fills) count count es left back)
          against own = both_ways (fills (winding_below count es f)) below
              (ap (λ k. fills (winding_by count es (midpoint k)))
              (sym (along_edge (ends_of f) forward false) ∙ own.ends)
              ∙ subst (λ t. cond t (fills (winding_above count es own.entry)) (fills (winding_below count es own.entry))
              ≡ true) (forward_above (ends_of f) forward false) own.there)

      passed : (s : Step) → Contains (all_steps loops) s → edge_of s ≡ ends_of f →
          Contains (all_filled_above left loops) (ends_of f)
      passed s d along = by (is_forward s) refl
        where
          by : (t : Bool) → is_forward s ≡ t → Contains (all_filled_above left loops) (ends_of f)
          by true way = subst (Contains (all_filled_above left loops)) along (above_kept left loops s d way)
          by false way = ⊎_elim kept
              (λ one. absurd (are.left_out back (other_way sides forth back one)
              (subst (Contains (all_steps loops))
              (one_way s back false way (forward_above (ends_of f) forward false)
              (along ∙ sym (along_edge (ends_of f) forward false))) d)))
              (are.taken forth forth_side)

    pub loops_follow : FollowRule (by_first fills) count count es left loops
    loops_follow = record {
      ruled = ruled fills count es arranged empty;
      bindable = can;
      beside = λ s c. beside s (side_of_loop sides loops are s c);
      rising = rising;
      passed = passed;
    }

  -- ---- holes

  module _ (contours : List Contour) (roles : HaveRoles 0 contours) (are : AreLoops sides (walks_in contours)) where
    -- a hole passes each anchor with the filled side below
    hole_passes : (c : Contour) → Contains contours c → c.role ≡ free_hole → (e : Edge) → IsAnchor c.steps e →
        Contains c.steps (step_with_left false e)
    hole_passes c at free e anchored =
        let passes = subst (λ t. PassesAnchor t c.steps) (ap is_outline free) (role_passes 0 contours roles c at) in
        let bindable = can (walks_in contours) are in
        subst (λ (f : Edge). Contains c.steps (step_with_left false f))
        (one_anchor (walks_in contours) bindable.contours bindable.single bindable.settled c.steps
        (Contains-map (λ (d : Contour). d.steps) contours c at) passes.anchor e passes.is_anchor anchored) passes.passes

    pub holes_empty_above : HaveEmptyAbove left contours
    holes_empty_above i c at free e anchored = record {
      step = step_with_left false e;
      among = hole_passes c here free e anchored;
      along = along_edge e leads false;
      empty = forward_above e leads false;
    }
      where
        here : Contains contours c
        here = Contains-place contours i c at

        leads : point_lt e.a e.b ≡ true
        leads = anchor_forward c.steps (All-contains IsContour (walks_in contours) c.steps
            (can (walks_in contours) are).contours (Contains-map (λ (d : Contour). d.steps) contours c here)) e anchored
