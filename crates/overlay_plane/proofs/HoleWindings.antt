-- The edge at a hole's anchor has its empty side above. Along the hole's empty side its winding is constant and not 0,
-- since the start has its filled side outside. Below the anchor the winding is 0.
use Rattle.std.proofs.Common.{◌≡◌, true, false, cond, ℤ, pos, ◌+ℤ◌, List, [], ◌∷◌, Contains, refl, sym, ap, ◌∙◌}
use Rattle.std.proofs.Common.{subst, arith}
use Rattle.std.proofs.lemmas.Bool.{false≢true, false_from_ne_true, not-true}
use Rattle.overlay_geom.specs.Plane.{Step, Edge, is_forward, edge_of}
use Rattle.overlay_geom.specs.Edges.{CountedEdge}
use Rattle.overlay_geom.proofs.Signs.{linear}
use Rattle.overlay_plane.specs.Turn.{step_round, IsOrbit, no_step, Hand, other_hand}
use Rattle.overlay_plane.specs.Turn.Hand.{left, right}
use Rattle.overlay_plane.specs.BesideOrbits.{winding_under, winding_over, winding_beside, IsBalancedPart}
use Rattle.overlay_plane.specs.LeftmostSteps.{NoneTakenBelow}
use Rattle.overlay_plane.specs.Contours.{is_filled_above, outline_or_hole_hand}
use Rattle.overlay_plane.specs.Anchors.{IsAnchor}
use Rattle.overlay_plane.specs.Binding.{is_hole}
use Rattle.overlay_plane.proofs.BalancedSteps.{orbits_are_balanced}
use Rattle.overlay_plane.proofs.BeforeTheSteps.{nothing_before_the_steps}
use Rattle.overlay_plane.proofs.BesideAcross.{winding_across_alternating_steps}
use Rattle.overlay_plane.proofs.BesideNext.{one_winding_along_orbits}
use Rattle.overlay_plane.proofs.Entries.{Contains-from_map}
use Rattle.overlay_plane.proofs.ItemsRound.{item_round-here, Contains-item_round}
use Rattle.overlay_plane.proofs.WalksOfCuts.{IsWalkOfCut}

-- the first step of a hole is filled above
pub first_filled : (filled : Hand) (walk : List Step) → is_hole filled walk ≡ true →
    is_filled_above filled (step_round walk 0) ≡ true
first_filled filled [] h = absurd (false≢true h)
first_filled filled (s ∷ ss) h = subst (λ (t : Step). is_filled_above filled t ≡ true)
    (sym (item_round-here (s ∷ ss) no_step 0 (omega arith))) h

-- where a step is filled above, its empty side is the lower of its edge
pub empty_below : (filled : Hand) (es : List CountedEdge) (taken : List Step) (t : Step) →
    is_filled_above filled t ≡ true →
    winding_beside (other_hand filled) es taken t ≡ winding_under es taken (edge_of t)
empty_below left es taken t h =
    ap (λ b. cond b (winding_under es taken (edge_of t)) (winding_over es taken (edge_of t))) h
empty_below right es taken t h =
    ap (λ b. cond b (winding_over es taken (edge_of t)) (winding_under es taken (edge_of t)))
    (not-true (is_forward t) h)

-- and its filled side the upper
pub filled_over : (filled : Hand) (es : List CountedEdge) (taken : List Step) (t : Step) →
    is_filled_above filled t ≡ true →
    winding_beside filled es taken t ≡ winding_over es taken (edge_of t)
filled_over left es taken t h =
    ap (λ b. cond b (winding_over es taken (edge_of t)) (winding_under es taken (edge_of t))) h
filled_over right es taken t h =
    ap (λ b. cond b (winding_under es taken (edge_of t)) (winding_over es taken (edge_of t)))
    (not-true (is_forward t) h)

-- the winding is not 0 on both sides of a step across which it rises by 1
pub not_both_zero : (filled : Hand) (es : List CountedEdge) (taken : List Step) (t : Step) →
    winding_beside left es taken t ≡ winding_beside right es taken t +ℤ pos 1 →
    winding_beside filled es taken t ≡ pos 0 →
    ¬ (winding_beside (other_hand filled) es taken t ≡ pos 0)
not_both_zero left es taken t rises over empty = apart (winding_beside left es taken t)
    (winding_beside right es taken t) rises over empty
  where
    apart : (a b : ℤ) → a ≡ b +ℤ pos 1 → a ≡ pos 0 → ¬ (b ≡ pos 0)
    apart a b h i j = omega linear
not_both_zero right es taken t rises over empty = apart (winding_beside left es taken t)
    (winding_beside right es taken t) rises empty over
  where
    apart : (a b : ℤ) → a ≡ b +ℤ pos 1 → a ≡ pos 0 → ¬ (b ≡ pos 0)
    apart a b h i j = omega linear

-- the anchor's edge has a step of the walk that is not filled above
pub record HasEmptyAbove (filled : Hand) (walk : List Step) (e : Edge) : Type 0 where
  pub step : Step
  pub among : Contains walk step
  pub along : edge_of step ≡ e
  pub empty : is_filled_above filled step ≡ false

module _ (es : List CountedEdge) (filled : Hand) (steps walk : List Step)
    (own : IsWalkOfCut es (outline_or_hole_hand filled) steps walk)
    (hole : is_hole filled walk ≡ true) where
  -- the hole's start
  abbrev start : Step
  start = step_round walk 0

  -- the hole is its orbit by the empty hand
  orbit : IsOrbit own.remaining (other_hand filled) walk
  orbit = subst (λ h. IsOrbit own.remaining h walk)
      (ap (λ b. cond b (other_hand filled) filled) (first_filled filled walk hole)) own.first.orbit

  -- its steps have balanced counts
  part : IsBalancedPart es own.remaining walk
  part = orbits_are_balanced es own.remaining own.along (other_hand filled) walk orbit

  -- and its start is one of them
  start_taken : Contains walk start
  start_taken = Contains-item_round walk no_step 0 own.first.orbit.some

  -- above its start the winding of the hole is 0
  zero_over : winding_over es walk (edge_of start) ≡ pos 0
  zero_over = (nothing_before_the_steps es own.remaining walk own.along part (edge_of start).a
      (λ t c. own.first.start.lowest t (own.within t c))).over_top_step
      start own.first.start.among refl (λ t c. own.first.start.top t (own.within t c))

  -- so below its start it is not
  not_zero : ¬ (winding_beside (other_hand filled) es walk start ≡ pos 0)
  not_zero = not_both_zero filled es walk start
      ((winding_across_alternating_steps es own.remaining walk own.first.alternate own.within).rises own.contour.once
      start start_taken)
      (filled_over filled es walk start (first_filled filled walk hole) ∙ zero_over)

  -- the edge at its anchor, below which it is 0, is not filled above
  pub empty_above_anchor : (e : Edge) → IsAnchor walk e → HasEmptyAbove filled walk e
  empty_above_anchor e anchored = record {
    step = step;
    among = among;
    along = along;
    empty = false_from_ne_true (is_filled_above filled step) against;
  }
    where
      found : (t : Step) × Contains walk t × (edge_of t ≡ e)
      found = Contains-from_map edge_of walk e anchored.among

      step : Step
      step = found.0

      among : Contains walk step
      among = found.1

      along : edge_of step ≡ e
      along = found.2

      zero_under : winding_under es walk (edge_of step) ≡ pos 0
      zero_under = (nothing_before_the_steps es own.remaining walk own.along part e.a
          anchored.leftmost).under_lowest_step step (own.within step among)
          (ap (λ f. f.a) along) (subst (λ (f : Edge). NoneTakenBelow walk e.a f) (sym along) anchored.lowest)

      against : ¬ (is_filled_above filled step ≡ true)
      against over = not_zero
          (one_winding_along_orbits es own.remaining walk own.along own.first.alternate part (other_hand filled) walk
          orbit start step start_taken among
          ∙ empty_below filled es walk step over ∙ zero_under)
