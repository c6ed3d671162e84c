-- An orbit by the empty hand in the steps of all hole groups stays in one of them. Otherwise each would have a winding
-- other than 0 along the other, and yet 0 at the start of the first group.
use Rattle.std.proofs.Common.{◌≡◌, ◌⊎◌, inl, inr, ⊎_elim, Bool, true, false, pos, List, Contains, refl, sym, ap, ◌∙◌}
use Rattle.std.proofs.lemmas.Bool.{both_ways, false_from_ne_true}
use Rattle.std.proofs.lemmas.List.Elements.{All-contains}
use Rattle.overlay_geom.specs.Plane.{Step, Edge, point_lt, point_eq, edge_of}
use Rattle.overlay_geom.specs.Edges.{CountedEdge}
use Rattle.overlay_geom.proofs.Orders.{point_eq-same, point_lt-back}
use Rattle.overlay_geom.proofs.Signs.{linear}
use Rattle.overlay_plane.specs.Turn.{step_round, IsNextStep, Hand, other_hand}
use Rattle.overlay_plane.specs.Turn.Hand.{left, right}
use Rattle.overlay_plane.specs.Alternates.{Alternates}
use Rattle.overlay_plane.specs.Nodes.{edge_turn, turns_left}
use Rattle.overlay_plane.specs.BesideOrbits.{winding_beside, WalksAlong, IsBalancedPart}
use Rattle.overlay_plane.specs.LeftmostSteps.{StepHasEndBefore, NoneTakenAbove, IsOutsideOfSteps}
use Rattle.overlay_plane.specs.Binding.{is_hole}
use Rattle.overlay_plane.proofs.BalancedSteps.{orbits_are_balanced, orbits_have_each_once}
use Rattle.overlay_plane.proofs.BeforeTheSteps.{end_before, nothing_before_the_steps}
use Rattle.overlay_plane.proofs.BesideAcross.{winding_across_alternating_steps}
use Rattle.overlay_plane.proofs.BesideNext.{one_winding_to_the_next, one_winding_along_orbits}
use Rattle.overlay_plane.proofs.CutByOneHand.{IsFromStart}
use Rattle.overlay_plane.proofs.EdgeTurns.{edge_turn_exchanged, left_of_not_left}
use Rattle.overlay_plane.proofs.GroupSteps.{part_along, orbit_inside}
use Rattle.overlay_plane.proofs.HoleWindings.{first_filled, filled_over, not_both_zero}
use Rattle.overlay_plane.proofs.NextSteps.{alternating_steps_lead_on}
use Rattle.overlay_plane.proofs.OrbitsApart.{orbits_are_apart}
use Rattle.overlay_plane.proofs.Tests.{lt_from_test, test_from_ge}

-- of two edges at most one leads to the left of the other
left_one_way : (e f : Edge) → turns_left e f ≡ true → turns_left f e ≡ false
left_one_way e f turns = test_from_ge (pos 0) (edge_turn f e)
    (let up = lt_from_test (pos 0) (edge_turn e f) turns in let back = edge_turn_exchanged e f in omega linear)

-- where the winding is constant on the left and the right of a step, it is so on its filled and its empty side
sides_alike : (filled : Hand) (es : List CountedEdge) (taken : List Step) (s : Step) →
    winding_beside left es taken s ≡ winding_beside right es taken s →
    winding_beside filled es taken s ≡ winding_beside (other_hand filled) es taken s
sides_alike left es taken s same = same
sides_alike right es taken s same = sym same

-- the second edge starts before the first, or in the same point and not below it
abbrev pub StartsNoLater : Edge → Edge → Type 0
StartsNoLater e f = (point_lt f.a e.a ≡ true) ⊎ ((f.a ≡ e.a) × (turns_left f e ≡ false))

-- of two edges one starts no later than the other
one_no_later : (e f : Edge) → StartsNoLater e f ⊎ StartsNoLater f e
one_no_later e f = by (point_lt f.a e.a) (point_eq f.a e.a) (turns_left f e) refl refl refl
  where
    by : (s t u : Bool) → point_lt f.a e.a ≡ s → point_eq f.a e.a ≡ t → turns_left f e ≡ u →
        StartsNoLater e f ⊎ StartsNoLater f e
    by true t u before same turns = inl (inl before)
    by false false u before same turns = inr (inl (point_lt-back f.a e.a same before))
    by false true true before same turns = inr (inr (sym (point_eq-same f.a e.a same), left_one_way f e turns))
    by false true false before same turns = inl (inr (point_eq-same f.a e.a same, turns))

module _ (es : List CountedEdge) (steps : List Step) (along : WalksAlong es steps) (alternates : Alternates steps)
    (filled : Hand) where
  -- the edges of steps lead forward
  edge_forward : (s : Step) → Contains steps s → point_lt (edge_of s).a (edge_of s).b ≡ true
  edge_forward s c = let own = along.along s c in
      ap (λ (f : Edge). point_lt f.a f.b) own.2
      ∙ All-contains (λ e. point_lt e.a e.b ≡ true) es own.0 along.planar.forward own.1

  -- the walk is a group
  abbrev pub IsGroup : List Step → Type 0
  IsGroup group = IsFromStart steps filled group

  -- the start of a group
  abbrev start_of : List Step → Step
  start_of group = step_round group 0

  module _ (group : List Step) (own : IsGroup group) where
    -- its steps are among all of them
    inside : (s : Step) → Contains group s → Contains steps s
    inside = orbit_inside steps alternates filled group own.orbit

    -- the steps have balanced counts
    part : IsBalancedPart es steps group
    part = orbits_are_balanced es steps along filled group own.orbit

    -- its winding is 0 up to its start
    outside : IsOutsideOfSteps es steps group (edge_of (start_of group)).a
    outside = nothing_before_the_steps es steps group along part (edge_of (start_of group)).a own.start.lowest

    module _ (hole : is_hole filled group ≡ true) where
      -- the winding is 0 on the filled sides of a hole, since the start is filled above
      filled_zero : (s : Step) → Contains group s → winding_beside filled es group s ≡ pos 0
      filled_zero s c =
          one_winding_along_orbits es steps group along alternates part filled group own.orbit s
          (start_of group) c own.start.among
          ∙ filled_over filled es group (start_of group) (first_filled filled group hole)
          ∙ outside.over_top_step (start_of group) (inside (start_of group) own.start.among) refl own.start.top

      -- the winding is another number on the empty side
      empty_not_zero : (s : Step) → Contains group s → ¬ (winding_beside (other_hand filled) es group s ≡ pos 0)
      empty_not_zero s c = not_both_zero filled es group s
          ((winding_across_alternating_steps es steps group alternates inside).rises
          (orbits_have_each_once steps filled
          (alternating_steps_lead_on steps alternates filled) group own.orbit) s c)
          (filled_zero s c)

  module _ (first second : List Step) (own : IsGroup first) (other : IsGroup second) where
    -- above a start that is no later the winding is 0, and on both sides of one that is earlier
    zero_at_start : is_hole filled second ≡ true → StartsNoLater (edge_of (start_of first))
        (edge_of (start_of second)) →
        winding_beside filled es first (start_of second) ≡ pos 0
    zero_at_start hole no_later =
        elim no_later [
          | inl before ↦ outside_first.beside_earlier filled (start_of second) at_start (has_end before)
          | inr level ↦ filled_over filled es first (start_of second) (first_filled filled second hole)
              ∙ outside_first.over_top_step (start_of second) at_start level.0 (none_above level.1)
        ]
      where
        outside_first : IsOutsideOfSteps es steps first (edge_of (start_of first)).a
        outside_first = outside first own

        at_start : Contains steps (start_of second)
        at_start = inside second other (start_of second) other.start.among

        has_end : point_lt (edge_of (start_of second)).a (edge_of (start_of first)).a ≡ true →
            StepHasEndBefore (edge_of (start_of first)).a (start_of second)
        has_end before = let its = along.along (start_of second) at_start in
            end_before (edge_of (start_of first)).a (start_of second) its.0 its.2
            (sym (ap (λ (f : Edge). point_lt f.a (edge_of (start_of first)).a) its.2) ∙ before)

        none_above : turns_left (edge_of (start_of second)) (edge_of (start_of first)) ≡ false →
            NoneTakenAbove first (edge_of (start_of first)).a (edge_of (start_of second))
        none_above below s c at = false_from_ne_true (turns_left (edge_of (start_of second)) (edge_of s))
            (λ turns. both_ways (turns_left (edge_of (start_of first)) (edge_of s)) (own.start.top s c at)
            (left_of_not_left (edge_of (start_of first)) (edge_of (start_of second)) (edge_of s)
            (edge_forward (start_of first) (inside first own (start_of first) own.start.among))
            (edge_forward (start_of second) at_start) (edge_forward s (inside first own s c)) below turns))

    -- no step is in both
    abbrev AreApart : Type 0
    AreApart = (s : Step) → Contains second s → ¬ (Contains first s)

    -- the winding of the first is 0 beside the second, if that starts no later
    zero_beside : AreApart → is_hole filled second ≡ true → StartsNoLater (edge_of (start_of first))
        (edge_of (start_of second)) →
        (s : Step) → Contains second s → winding_beside (other_hand filled) es first s ≡ pos 0
    zero_beside apart hole no_later s c =
        sym (sides_alike filled es first s
        ((winding_across_alternating_steps es steps first alternates (inside first own)).stays s
        (inside second other s c) (apart s c)))
        ∙ one_winding_along_orbits es steps first along alternates (part first own) filled second
        other.orbit s (start_of second) c other.start.among
        ∙ zero_at_start hole no_later

  -- in alternating steps of whole groups no step of one hole is followed by a step of another
  module _ (all : List Step) (all_inside : (s : Step) → Contains all s → Contains steps s)
      (all_alternate : Alternates all) where
    -- the winding of a group on the empty side goes over to the next step
    goes_over : (group : List Step) (own : IsGroup group) → ((s : Step) → Contains group s → Contains all s) →
        (s t : Step) → Contains all s →
        IsNextStep all (other_hand filled) s t → winding_beside (other_hand filled) es group s ≡ winding_beside
        (other_hand filled) es group t
    goes_over group own within s t c next = one_winding_to_the_next es all group
        (part_along es steps all along all_inside) all_alternate
        (record { inside = within; balanced = (part group own).balanced }) (other_hand filled) s t c next

    pub stays_inside : (first second : List Step) → IsGroup first → IsGroup second → is_hole filled first ≡ true →
        is_hole filled second ≡ true →
        ((s : Step) → Contains first s → Contains all s) → ((s : Step) → Contains second s → Contains all s) →
        (s t : Step) → Contains first s → Contains second t → IsNextStep all (other_hand filled) s t →
        ¬ (¬ (Contains first t))
    stays_inside first second own other hole other_hole within other_within s t c d next none = ⊎_elim
        (λ no_later. empty_not_zero first own hole s c
        (goes_over first own within s t (within s c) next
        ∙ zero_beside first second own other apart other_hole no_later t d))
        (λ no_later. empty_not_zero second other other_hole t d
        (sym (goes_over second other other_within s t (within s c) next) ∙ zero_beside second first other own
        (λ u in_first in_second. apart u in_second in_first) hole no_later s c))
        (one_no_later (edge_of (start_of first)) (edge_of (start_of second)))
      where
        apart : (u : Step) → Contains second u → ¬ (Contains first u)
        apart u in_second in_first = none
            ((orbits_are_apart steps filled
            (alternating_steps_lead_on steps alternates filled) first second own.orbit other.orbit u
            in_first in_second t).1 d)
