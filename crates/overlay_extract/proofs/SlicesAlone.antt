-- Each of the shapes to which loops of filled sides are bound winds once or zero times round each point. Its lowest
-- edge at its leftmost lowest point is the anchor of its outline, which is filled above and not passed back.
use Rattle.std.proofs.Common.{◌≡◌, ⊎_elim, ℕ, Bool, true, false, ℤ, pos, ◌+ℤ◌, ◌-ℤ◌, List, ◌∷◌, ◌++◌, Contains, Option}
use Rattle.std.proofs.Common.{Some, sym, ap, ap₂, ◌∙◌, subst}
use Rattle.std.proofs.lemmas.List.Elements.{All-contains}
use Rattle.overlay_geom.specs.Plane.{Point, Step, Edge, edge_of, is_forward, point_lt, reversed_step}
use Rattle.overlay_geom.specs.Edges.{CountedEdge}
use Rattle.overlay_plane.specs.BesideOrbits.{winding_beside, WalksAlong, IsBalancedPart, HasEachOnce}
use Rattle.overlay_plane.specs.BoundContours.{BoundContour, walks_in, has_one_shape, AreShapesFound}
use Rattle.overlay_plane.specs.BoundContours.{contours_bound, own_holes, found_holes}
use Rattle.overlay_plane.specs.ContourNumbers.{AreNumbers}
use Rattle.overlay_plane.specs.Contours.{all_steps}
use Rattle.overlay_plane.specs.Groups.{IsSimpleContour}
use Rattle.overlay_plane.specs.LeftmostSteps.{HasLeftmost, StepHasEndBefore, NoneTakenBelow}
use Rattle.overlay_plane.specs.Nodes.{IsBalancedArrangement}
use Rattle.overlay_plane.specs.RoledContours.{outline, Contour, stands_in, is_outline}
use Rattle.overlay_plane.specs.SelectedSteps.{step_with_left}
use Rattle.overlay_plane.specs.ShapesAlone.{HasOneWinding, WindsOnceOrNot}
use Rattle.overlay_plane.specs.Turn.Hand.{left, right}
use Rattle.overlay_plane.proofs.Anchors.{anchor_forward}
use Rattle.overlay_plane.proofs.BesideAcross.{winding_across_a_step, none_held, one_held, one_of_two}
use Rattle.overlay_plane.proofs.BoundSteps.{bound_at}
use Rattle.overlay_plane.proofs.ContourSteps.{contour_long}
use Rattle.overlay_plane.proofs.Entries.{Contains-map}
use Rattle.overlay_plane.proofs.LeastSteps.{leftmost_steps_exist}
use Rattle.overlay_plane.proofs.NumberedContours.{one_outline}
use Rattle.overlay_plane.proofs.OneShape.{part, own_in_taken, lowest_own, winds_alone}
use Rattle.overlay_plane.proofs.PlacesOfContours.{Contains-place}
use Rattle.overlay_plane.proofs.RuledWalks.{FollowRule}
use Rattle.overlay_plane.proofs.SelectedWindings.{along_edge, forward_above}
use Rattle.overlay_plane.proofs.WalkedEdges.{one_anchor}
use Rattle.overlay_extract.specs.Bound.{PassesAnchor, HaveRoles}
use Rattle.overlay_extract.specs.FilledSides.{filled_sides, IsInOneOrbit}
use Rattle.overlay_extract.specs.Loops.{AreLoops}
use Rattle.overlay_extract.proofs.AlongSides.{one_winding_along_sides}
use Rattle.overlay_extract.proofs.RoledLoops.{roles_numbered, role_passes, outline_of_number}
use Rattle.overlay_extract.proofs.RuledLoops.{loops_follow, holes_empty_above, side_of_loop}
use Rattle.overlay_extract.proofs.SideLists.{sides_listed, sides_walk_along}
use Rattle.overlay_extract.proofs.SideWindings.{by_first}
use Rattle.overlay_extract.proofs.SimpleLoops.{no_step_back}

module _ (fills : ℤ → Bool) (count : CountedEdge → ℤ) (es : List CountedEdge)
    (arranged : IsBalancedArrangement count es) (empty : fills (pos 0) ≡ false) (contours : List Contour)
    (roles : HaveRoles 0 contours) (are : AreLoops (filled_sides fills count es) (walks_in contours))
    (shapes : List (Option ℕ)) (found : AreShapesFound left contours shapes)
    (many : has_one_shape contours ≡ false) (b : BoundContour) (at_b : Contains (contours_bound contours shapes) b)
    (n : ℕ) (is_b : b.contour.role ≡ outline n) where
  abbrev loops : List (List Step)
  loops = walks_in contours

  abbrev sides : List Step
  sides = filled_sides fills count es

  abbrev bound : List BoundContour
  bound = contours_bound contours shapes

  abbrev o : Contour
  o = b.contour

  -- the steps of the shape's loops
  abbrev taken : List Step
  taken = all_steps (o.steps ∷ own_holes bound n ++ found_holes bound n)

  follow : FollowRule (by_first fills) count count es left loops
  follow = loops_follow fills count es arranged empty loops are

  numbered : AreNumbers 0 contours
  numbered = roles_numbered 0 contours roles

  along : WalksAlong es sides
  along = sides_walk_along fills count es arranged left sides (sides_listed fills count es arranged)

  part_taken : IsBalancedPart es sides taken
  part_taken = part (by_first fills) count count es left contours follow numbered sides along
      (side_of_loop sides loops are) shapes found many b at_b n is_b

  -- along each loop their winding on the left is one number
  alike : (w : List Step) → Contains loops w → HasOneWinding left es taken w
  alike w c s t in_s in_t =
      let one = All-contains (λ (l : List Step). (u v : Step) → Contains l u → Contains l v → IsInOneOrbit sides u v)
      loops w are.one_orbit c s t in_s in_t in
      one_winding_along_sides fills count es arranged left sides (sides_listed fills count es arranged) taken part_taken
      one.walk one.orbit s t one.has_one one.has_other

  -- ---- the outline

  at_o : Contains contours o
  at_o = let place = bound_at contours shapes b at_b in Contains-place contours place.0 o place.1

  in_loops : Contains loops o.steps
  in_loops = Contains-map (λ (d : Contour). d.steps) contours o at_o

  -- it alone stands in the shape from the start
  only : (c : Contour) → Contains contours c → stands_in c.role ≡ Some n → c ≡ o
  only c at stands = one_outline 0 contours numbered c o at at_o n (outline_of_number n 0 contours roles c at stands)
      is_b

  own_alike : (c d : Contour) → Contains contours c → Contains contours d → stands_in c.role ≡ Some n →
      stands_in d.role ≡ Some n → (s t : Step) → Contains c.steps s → Contains d.steps t →
      winding_beside left es taken s ≡ winding_beside left es taken t
  own_alike c d at_c at_d stands_c stands_d s t in_s in_t = alike o.steps in_loops s t
      (subst (λ (e : Contour). Contains e.steps s) (only c at_c stands_c) in_s)
      (subst (λ (e : Contour). Contains e.steps t) (only d at_d stands_d) in_t)

  simple : IsSimpleContour o.steps
  simple = All-contains IsSimpleContour loops o.steps are.simple in_loops

  of_outline : (s : Step) → Contains o.steps s → Contains taken s
  of_outline = own_in_taken (by_first fills) count count es left contours follow numbered sides along
      (side_of_loop sides loops are) shapes found many b at_b n is_b o at_o (ap stands_in is_b)

  -- it passes the edge of its anchor with the filled side above
  passes : PassesAnchor true o.steps
  passes = subst (λ t. PassesAnchor t o.steps) (ap is_outline is_b) (role_passes 0 contours roles o at_o)

  abbrev anchor : Edge
  anchor = passes.anchor

  leads : point_lt anchor.a anchor.b ≡ true
  leads = anchor_forward o.steps simple.contour anchor passes.is_anchor

  abbrev first : Step
  first = step_with_left true anchor

  -- ---- the lowest edge at the leftmost point

  -- it is the outline's
  of_lowest : (h : HasLeftmost taken) → Contains o.steps h.lowest
  of_lowest h =
      let own = lowest_own (by_first fills) count count es left contours follow numbered sides along
      (side_of_loop sides loops are) shapes found many b at_b n is_b h in
      subst (λ (c : Contour). Contains c.steps h.lowest) (only own.0 own.1 own.2) own.3

  leftmost : HasLeftmost taken
  leftmost = leftmost_steps_exist es sides taken along part_taken.inside first (of_outline first passes.passes)

  -- so it is that of its anchor
  lowest_is : edge_of leftmost.lowest ≡ anchor
  lowest_is = one_anchor loops follow.bindable.contours follow.bindable.single follow.bindable.settled o.steps in_loops
      (edge_of leftmost.lowest) anchor (record {
        among = Contains-map edge_of o.steps leftmost.lowest (of_lowest leftmost);
        leftmost = λ s c. subst (λ (q : Point). ¬ (StepHasEndBefore q s)) (sym leftmost.lowest_starts)
            (leftmost.none_before s (of_outline s c));
        lowest = λ s c starts. leftmost.none_below s (of_outline s c) (starts ∙ leftmost.lowest_starts);
      }) passes.is_anchor

  -- and the step along it is passed
  lowest_first : leftmost.lowest ≡ first
  lowest_first = ⊎_elim (λ same. same)
      (λ back. absurd (no_step_back o.steps simple first passes.passes
      (subst (Contains o.steps) back (of_lowest leftmost))))
      (one_of_two leftmost.lowest first (lowest_is ∙ sym (along_edge anchor leads true)))

  -- but not the step back
  not_back : ¬ (Contains taken (reversed_step first))
  not_back c = no_step_back o.steps simple first passes.passes (of_lowest (record {
    point = leftmost.point;
    none_before = leftmost.none_before;
    top = leftmost.top;
    top_taken = leftmost.top_taken;
    top_starts = leftmost.top_starts;
    none_above = leftmost.none_above;
    lowest = reversed_step first;
    lowest_taken = c;
    lowest_starts = ap (λ (k : Edge). k.a) back_is ∙ leftmost.lowest_starts;
    none_below = subst (λ (k : Edge). NoneTakenBelow taken leftmost.point k) (sym back_is) leftmost.none_below;
  }))
    where
      back_is : edge_of (reversed_step first) ≡ edge_of leftmost.lowest
      back_is = along_edge anchor leads false ∙ sym lowest_is

  rises : HasEachOnce taken → winding_beside left es taken first ≡ winding_beside right es taken first +ℤ pos 1
  rises once = winding_across_a_step es taken first (contour_long o.steps simple.contour first passes.passes)
      ∙ ap₂ (λ u v. winding_beside right es taken first +ℤ (u -ℤ v))
      (one_held taken once first (of_outline first passes.passes)) (none_held taken (reversed_step first) not_back)

  pub shape_winds : HasEachOnce taken → WindsOnceOrNot left taken
  shape_winds once = winds_alone (by_first fills) count count es left contours follow numbered sides along
      (side_of_loop sides loops are) shapes found many b at_b n is_b leftmost
      (holes_empty_above fills count es arranged empty contours roles are) alike own_alike
      (ap is_forward lowest_first ∙ forward_above anchor leads true) once
      (subst (λ s. winding_beside left es taken s ≡ winding_beside right es taken s +ℤ pos 1) (sym lowest_first)
      (rises once))
