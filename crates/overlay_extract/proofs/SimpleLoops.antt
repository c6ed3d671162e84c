-- A contour that visits no point twice has no step with its reverse; so, where its steps are filled sides, it passes no
-- side whose reverse lies in the same orbit: what it winds on the left of the one it winds on the left of the other.
use Rattle.std.proofs.Common.{◌≡◌, ◌⊎◌, inl, inr, ⊎_elim, ℕ, suc, ◌+◌, ◌<◌, Bool, ℤ, pos, ◌+ℤ◌, ◌-ℤ◌, List}
use Rattle.std.proofs.Common.{length}
use Rattle.std.proofs.Common.{get_or, Contains, refl, sym, ap, ◌∙◌, subst, arith}
use Rattle.std.proofs.lemmas.Bool.{cases_lt, cases_order, both_ways}
use Rattle.std.proofs.lemmas.List.{get_or-map, length-map}
use Rattle.std.proofs.lemmas.List.Elements.{All-contains}
use Rattle.overlay_geom.specs.Plane.{Point, Step, point_eq, reversed_step, points_of, total}
use Rattle.overlay_geom.specs.Edges.{CountedEdge}
use Rattle.overlay_geom.proofs.Signs.{linear}
use Rattle.overlay_geom.proofs.Orders.{point_eq-of_same}
use Rattle.overlay_plane.specs.Turn.{step_round, no_step}
use Rattle.overlay_plane.specs.Turn.Hand.{left, right}
use Rattle.overlay_plane.specs.BesideOrbits.{count_on, winding_beside, times_held}
use Rattle.overlay_plane.specs.BesideOrbits.{IsBalancedPart}
use Rattle.overlay_plane.specs.Contours.{IsContour}
use Rattle.overlay_plane.specs.Groups.{IsSimpleContour}
use Rattle.overlay_plane.specs.Nodes.{IsBalancedArrangement}
use Rattle.overlay_plane.proofs.BalancedSteps.{balanced_from_rises}
use Rattle.overlay_plane.proofs.BesideAcross.{across}
use Rattle.overlay_plane.proofs.EdgesOfSteps.{one_side}
use Rattle.overlay_plane.proofs.OrbitSteps.{step_inside}
use Rattle.overlay_plane.proofs.ItemsRound.{item_round-here, item_round-round, place_of}
use Rattle.overlay_plane.proofs.Telescopes.{signed_rise, signed_rise-around}
use Rattle.overlay_extract.specs.FilledSides.{filled_sides, IsFilledSide, AreFilledSides, IsInOneOrbit}
use Rattle.overlay_extract.specs.Loops.{LoopsPassNoSideBothWays}
use Rattle.overlay_extract.proofs.AlongSides.{along_an_orbit}
use Rattle.overlay_extract.proofs.SideLists.{sides_listed, sides_walk_along, edge_of_along}
use Rattle.overlay_extract.proofs.SideSpokes.{long, along_back, side_of_back}
use Rattle.overlay_plane.proofs.BesideAcross.{one_held, none_held}
use Rattle.overlay_plane.proofs.InsideOneGroup.{not_none}

-- ---- a simple contour

module _ (loop : List Step) (simple : IsSimpleContour loop) where
  -- steps at two places leave two points
  apart_before : (i j : ℕ) → i < j → j < length loop → ¬ ((step_round loop i).from ≡ (step_round loop j).from)
  apart_before i j less within same = both_ways
      (point_eq (get_or (points_of loop) i no_step.from) (get_or (points_of loop) j no_step.from))
      (simple.points_once i j no_step.from less (let l = length-map loop (λ (s : Step). s.from) in omega arith))
      (point_eq-of_same (get_or (points_of loop) i no_step.from) (get_or (points_of loop) j no_step.from)
      (at i (omega arith) ∙ same ∙ sym (at j within)))
    where
      at : (k : ℕ) → k < length loop → get_or (points_of loop) k no_step.from ≡ (step_round loop k).from
      at k h = get_or-map (λ (s : Step). s.from) loop k no_step no_step.from h
          ∙ ap (λ (s : Step). s.from) (sym (item_round-here loop no_step k h))

  one_place_from : (i j : ℕ) → i < length loop → j < length loop →
      (step_round loop i).from ≡ (step_round loop j).from → i ≡ j
  one_place_from i j h k e = ⊎_elim (λ same. same) (λ either. ⊎_elim (λ less. absurd (apart_before i j less k e))
      (λ more. absurd (apart_before j i more h (sym e))) either) (cases_order i j)

  -- the step after the one at a place of the list stands at the next place, or is the first one
  place_after : (i : ℕ) → i < length loop →
      (j : ℕ) × (j < length loop) × (step_round loop j ≡ step_round loop (suc i)) ×
      ((j ≡ suc i) ⊎ ((j ≡ 0) × (suc i ≡ length loop)))
  place_after i h = ⊎_elim (λ less. (suc i, less, refl, inl refl))
      (λ more. let last : suc i ≡ length loop + 0 = omega arith in (
        0,
        omega arith,
        sym (item_round-round loop no_step 0) ∙ sym (ap (step_round loop) last),
        inr (refl, omega arith),
      ))
      (cases_lt (suc i) (length loop))

  -- a step and the step back are not both in it
  pub no_step_back : (s : Step) → Contains loop s → ¬ (Contains loop (reversed_step s))
  no_step_back s c d = against (place_of loop no_step s c) (place_of loop no_step (reversed_step s) d)
    where
      against : (i : ℕ) × (i < length loop) × (step_round loop i ≡ s) →
          (j : ℕ) × (j < length loop) × (step_round loop j ≡ reversed_step s) → ⊥
      against (i, h, at_s) (j, k, at_back) =
          let one_more : i + 1 ≡ suc i = omega arith in
          let two_more : j + 1 ≡ suc j = omega arith in
          let after_s = place_after i h in
          let after_back = place_after j k in
          let is_back = one_place_from after_s.0 j after_s.1 k
          (ap (λ (t : Step). t.from) after_s.2 ∙ ap (λ k. (step_round loop k).from) (sym one_more)
          ∙ simple.contour.leads_on i ∙ ap (λ (t : Step). t.to) at_s ∙ sym (ap (λ (t : Step). t.from) at_back)) in
          let is_first = one_place_from after_back.0 i after_back.1 h
          (ap (λ (t : Step). t.from) after_back.2 ∙ ap (λ k. (step_round loop k).from) (sym two_more)
          ∙ simple.contour.leads_on j ∙ ap (λ (t : Step). t.to) at_back ∙ sym (ap (λ (t : Step). t.from) at_s)) in
          let three = simple.contour.three in
          ⊎_elim (λ on. ⊎_elim (λ on'. omega arith) (λ round'. let e = round'.0 in let f = round'.1 in omega arith)
          after_back.3)
          (λ round. let e' = round.0 in let f' = round.1 in ⊎_elim (λ on'. omega arith)
          (λ round'. let e = round'.0 in let f = round'.1 in omega arith) after_back.3) after_s.3

-- a contour has balanced counts
pub contour_rises : (loop : List Step) → IsContour loop → (g : Point → ℤ) → total (signed_rise g) loop ≡ pos 0
contour_rises loop contour g = subst (λ ss. total (signed_rise g) ss ≡ pos 0) contour.whole
    (signed_rise-around g (points_of loop))

one_is_none : pos 1 ≡ pos 0 → ⊥
one_is_none e = omega linear

module _ (fills : ℤ → Bool) (count : CountedEdge → ℤ) (es : List CountedEdge)
    (arranged : IsBalancedArrangement count es) where
  -- the filled sides
  abbrev sides : List Step
  sides = filled_sides fills count es

  are : AreFilledSides fills count es left sides
  are = sides_listed fills count es arranged

  -- any part of the sides that has balanced counts holds a side as often as its reverse, where both are in one orbit
  pub held_both_ways : (taken : List Step) → IsBalancedPart es sides taken → (s : Step) →
      IsInOneOrbit sides s (reversed_step s) → times_held taken s ≡ times_held taken (reversed_step s)
  held_both_ways taken part s both =
      balance (winding_beside left es taken s) (winding_beside right es taken s)
      (times_held taken s) (times_held taken (reversed_step s))
      (across s s_long taken es)
      (along_an_orbit fills count es arranged left sides are taken part both.walk both.orbit s (reversed_step s)
      both.has_one both.has_other ∙ beside_back)
    where
      side : IsFilledSide fills count es left s
      side = are.sides s (let at = place_of both.walk no_step s both.has_one in
          subst (Contains sides) at.2 (step_inside sides left both.walk both.orbit at.0))

      counted : IsBalancedArrangement (count_on taken) es
      counted = record { planar = arranged.planar; balanced = part.balanced }

      s_long : ¬ (s.from ≡ s.to)
      s_long = long count es arranged s.to side.edge s side.along

      -- left of the step back is right of the step
      beside_back : winding_beside left es taken (reversed_step s) ≡ winding_beside right es taken s
      beside_back = one_side (reversed_step s) side.edge
          (edge_of_along fills count es arranged side.edge (reversed_step s)
          (along_back count es arranged s.to side.edge s side.along))
          (long count es arranged s.from side.edge (reversed_step s)
          (along_back count es arranged s.to side.edge s side.along)) es taken left
          ∙ side_of_back (count_on taken) es counted side.edge s side.along right
          ∙ sym (one_side s side.edge (edge_of_along fills count es arranged side.edge s side.along) s_long es taken
          right)

      balance : (l r t u : ℤ) → l ≡ r +ℤ (t -ℤ u) → l ≡ r → t ≡ u
      balance l r t u p q = omega linear

-- a loop passes no side both ways
pub loops_pass_no_side_both_ways : LoopsPassNoSideBothWays
loops_pass_no_side_both_ways fills count es arranged loop inside simple s both c =
    no_step_back loop simple s c (held_there (held_both_ways fills count es arranged loop part s both))
  where
    part : IsBalancedPart es (filled_sides fills count es) loop
    part = balanced_from_rises es (filled_sides fills count es)
        (sides_walk_along fills count es arranged left (filled_sides fills count es)
        (sides_listed fills count es arranged)) loop
        (λ t d. All-contains (Contains (filled_sides fills count es)) loop t inside d)
        (contour_rises loop simple.contour)

    held_there : times_held loop s ≡ times_held loop (reversed_step s) → Contains loop (reversed_step s)
    held_there same = not_none loop (reversed_step s) (λ none. one_is_none
        (sym (one_held loop simple.contour.once s c) ∙ same ∙ none_held loop (reversed_step s) none))
