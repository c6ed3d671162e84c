-- An orbit by the empty hand in a group that is a hole has its empty side above its anchor: its winding is 0 above the
-- group's start, so along the group on the filled sides, and it is 0 below the anchor.
use Rattle.std.proofs.Common.{◌≡◌, true, pos, List, Contains, refl, sym, ap, ◌∙◌, subst}
use Rattle.std.proofs.lemmas.Bool.{false_from_ne_true}
use Rattle.overlay_geom.specs.Plane.{Step, Edge, edge_of}
use Rattle.overlay_geom.specs.Edges.{CountedEdge}
use Rattle.overlay_plane.specs.Turn.{IsOrbit, step_round, Hand, other_hand}
use Rattle.overlay_plane.specs.Alternates.{Alternates}
use Rattle.overlay_plane.specs.BesideOrbits.{winding_under, winding_beside, WalksAlong, IsBalancedPart}
use Rattle.overlay_plane.specs.LeftmostSteps.{NoneTakenBelow}
use Rattle.overlay_plane.specs.Contours.{is_filled_above}
use Rattle.overlay_plane.specs.Anchors.{IsAnchor}
use Rattle.overlay_plane.specs.Binding.{is_hole}
use Rattle.overlay_plane.proofs.BalancedSteps.{orbits_are_balanced, orbits_have_each_once}
use Rattle.overlay_plane.proofs.BeforeTheSteps.{nothing_before_the_steps}
use Rattle.overlay_plane.proofs.BesideAcross.{winding_across_alternating_steps}
use Rattle.overlay_plane.proofs.BesideNext.{one_winding_along_orbits}
use Rattle.overlay_plane.proofs.CutByOneHand.{IsFromStart}
use Rattle.overlay_plane.proofs.Entries.{Contains-from_map}
use Rattle.overlay_plane.proofs.GroupSteps.{part_along, orbit_inside, orbit_alternates}
use Rattle.overlay_plane.proofs.HoleWindings.{HasEmptyAbove, first_filled, empty_below, filled_over, not_both_zero}
use Rattle.overlay_plane.proofs.NextSteps.{alternating_steps_lead_on}

module _ (es : List CountedEdge) (steps : List Step) (along : WalksAlong es steps) (alternates : Alternates steps)
    (filled : Hand) (group : List Step) (own : IsFromStart steps filled group) (hole : is_hole filled group ≡ true)
    (walk : List Step) (orbit : IsOrbit group (other_hand filled) walk) where
  -- the group's start
  abbrev start : Step
  start = step_round group 0

  -- the group alternates
  group_alternates : Alternates group
  group_alternates = orbit_alternates steps alternates filled group own.orbit

  -- and is among the steps
  group_inside : (s : Step) → Contains group s → Contains steps s
  group_inside = orbit_inside steps alternates filled group own.orbit

  -- the walk is in the group
  in_group : (s : Step) → Contains walk s → Contains group s
  in_group = orbit_inside group group_alternates (other_hand filled) walk orbit

  -- so its steps have balanced counts
  part : IsBalancedPart es steps walk
  part = record {
    inside = λ s c. group_inside s (in_group s c);
    balanced = (orbits_are_balanced es group (part_along es steps group along group_inside) (other_hand filled) walk
        orbit).balanced;
  }

  -- its winding is 0 on the filled sides of the group
  filled_zero : (s : Step) → Contains group s → winding_beside filled es walk s ≡ pos 0
  filled_zero s c =
      one_winding_along_orbits es steps walk along alternates part filled group own.orbit s start c own.start.among
      ∙ filled_over filled es walk start (first_filled filled group hole)
      ∙ (nothing_before_the_steps es steps walk along part (edge_of start).a
      (λ t d. own.start.lowest t (in_group t d))).over_top_step start (group_inside start own.start.among) refl
      (λ t d. own.start.top t (in_group t d))

  -- so on the empty sides of the walk it is not
  empty_not_zero : (s : Step) → Contains walk s → ¬ (winding_beside (other_hand filled) es walk s ≡ pos 0)
  empty_not_zero s c = not_both_zero filled es walk s
      ((winding_across_alternating_steps es steps walk alternates part.inside).rises
      (orbits_have_each_once group (other_hand filled)
      (alternating_steps_lead_on group group_alternates (other_hand filled)) walk orbit) s c)
      (filled_zero s (in_group s c))

  -- the edge at its anchor, below which it is 0, is not filled above
  pub empty_above_in_group : (e : Edge) → IsAnchor walk e → HasEmptyAbove filled walk e
  empty_above_in_group e anchored = record {
    step = step;
    among = among;
    along = along_it;
    empty = false_from_ne_true (is_filled_above filled step)
        (λ over. empty_not_zero step among (empty_below filled es walk step over ∙ zero_under));
  }
    where
      found : (t : Step) × Contains walk t × (edge_of t ≡ e)
      found = Contains-from_map edge_of walk e anchored.among

      step : Step
      step = found.0

      among : Contains walk step
      among = found.1

      along_it : edge_of step ≡ e
      along_it = found.2

      zero_under : winding_under es walk (edge_of step) ≡ pos 0
      zero_under = (nothing_before_the_steps es steps walk along part e.a anchored.leftmost).under_lowest_step step
          (part.inside step among) (ap (λ f. f.a) along_it)
          (subst (λ (f : Edge). NoneTakenBelow walk e.a f) (sym along_it) anchored.lowest)
