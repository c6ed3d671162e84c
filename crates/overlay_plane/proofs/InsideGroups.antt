-- An orbit by the empty hand in a group, which is an orbit by the filled hand, visits no point twice. The stretch
-- between two visits would have equal windings on the empty side before and after the second, and on the filled side.
-- Yet it would rise by 1 across one of the two steps.
use Rattle.std.proofs.Common.{◌≡◌, ℕ, suc, ◌+◌, ◌-◌, ◌<◌, false, ℤ, pos, ◌+ℤ◌, List, length, get_or}
use Rattle.std.proofs.Common.{Contains, AllPairs, sym, ap, ◌∙◌, subst, arith}
use Rattle.std.proofs.lemmas.Bool.{false_from_ne_true}
use Rattle.std.proofs.lemmas.List.{get_or_default}
use Rattle.overlay_geom.specs.Plane.{Point, Step, point_eq, points_of, total}
use Rattle.overlay_geom.specs.Edges.{CountedEdge}
use Rattle.overlay_geom.proofs.Orders.{point_eq-same}
use Rattle.overlay_geom.proofs.Signs.{linear}
use Rattle.overlay_plane.specs.Turn.{step_round, no_step, Hand, other_hand}
use Rattle.overlay_plane.specs.Turn.Hand.{left, right}
use Rattle.overlay_plane.specs.Alternates.{Alternates}
use Rattle.overlay_plane.specs.BesideOrbits.{winding_beside, WalksAlong, IsBalancedPart, HasEachOnce}
use Rattle.overlay_plane.specs.BesideOrbits.{WindingAcrossSteps}
use Rattle.overlay_plane.specs.Groups.{HasEachPointOnce, IsInsideAGroup, WalksInsideGroupsAreSimple}
use Rattle.overlay_plane.proofs.BalancedSteps.{balanced_from_rises}
use Rattle.overlay_plane.proofs.BesideAcross.{winding_across_alternating_steps}
use Rattle.overlay_plane.proofs.BesideNext.{one_winding_to_the_next, one_winding_along_orbits}
use Rattle.overlay_plane.proofs.ClosedWalks.{orbits_are_contours}
use Rattle.overlay_plane.proofs.GroupSteps.{part_along, orbit_inside, orbit_alternates}
use Rattle.overlay_plane.proofs.ItemsRound.{item_round-here}
use Rattle.overlay_plane.proofs.LaterEntries.{Each-from_all_pairs, Each-map, AllPairs-from_each}
use Rattle.overlay_plane.proofs.NextSteps.{alternating_steps_lead_on}
use Rattle.overlay_plane.proofs.OrbitSteps.{goes_on_round, step_inside, once_each}
use Rattle.overlay_plane.proofs.ShuffledSteps.{Differ}
use Rattle.overlay_plane.proofs.Stretches.{stretch, place_in_stretch, last_in_stretch, stretch_rises, stretch_once}
use Rattle.overlay_plane.proofs.Telescopes.{signed_rise}

-- numbers beside two steps, equal on either side, do not rise across one step alone
rises_across_one : (a b c d : ℤ) → a ≡ c → b ≡ d → a ≡ b +ℤ pos 1 → ¬ (c ≡ d)
rises_across_one a b c d ac bd rises stays = omega linear

-- this holds for the windings on the filled side and on the empty side
not_both_alike : (filled : Hand) (es : List CountedEdge) (taken : List Step) (s t : Step) →
    winding_beside filled es taken s ≡ winding_beside filled es taken t →
    winding_beside (other_hand filled) es taken s ≡ winding_beside (other_hand filled) es taken t →
    winding_beside left es taken s ≡ winding_beside right es taken s +ℤ pos 1 →
    ¬ (winding_beside left es taken t ≡ winding_beside right es taken t)
not_both_alike left es taken s t over empty =
    rises_across_one (winding_beside left es taken s) (winding_beside right es taken s) (winding_beside left es taken t)
    (winding_beside right es taken t) over empty
not_both_alike right es taken s t over empty =
    rises_across_one (winding_beside left es taken s) (winding_beside right es taken s) (winding_beside left es taken t)
    (winding_beside right es taken t) empty over

module _ (es : List CountedEdge) (steps : List Step) (along : WalksAlong es steps) (alternates : Alternates steps)
    (filled : Hand)
    (walk : List Step) (own : IsInsideAGroup filled steps walk) where
  -- the group alternates
  group_alternates : Alternates own.group
  group_alternates = orbit_alternates steps alternates filled own.group own.grouped

  -- the step is one of the steps
  group_inside : (s : Step) → Contains own.group s → Contains steps s
  group_inside = orbit_inside steps alternates filled own.group own.grouped

  -- each step of the walk is one of the group
  walk_in_group : (k : ℕ) → Contains own.group (step_round walk k)
  walk_in_group = step_inside own.group (other_hand filled) walk own.inside

  module _ (i n : ℕ) (within : suc (i + n) < length walk)
      (again : (step_round walk i).from ≡ (step_round walk (suc (i + n))).from) where
    -- the steps between two visits
    taken : List Step
    taken = stretch walk i (suc n)

    -- are steps of the group
    taken_in_group : (s : Step) → Contains taken s → Contains own.group s
    unfolding taken
    taken_in_group s c = let at = place_in_stretch walk i (suc n) s c in
        subst (λ t. Contains own.group t) at.3 (walk_in_group at.0)

    -- a number given to each point rises by 0 along them
    level : (g : Point → ℤ) → total (signed_rise g) taken ≡ pos 0
    unfolding taken
    level g =
        let rises = stretch_rises own.group (other_hand filled) walk own.inside g i (suc n) in
        let one_more : i + suc n ≡ suc (i + n) = omega arith in
        let last = ap (λ k. g (step_round walk k).from) one_more in
        let same = ap g again in
        omega linear

    -- the steps have balanced counts
    part_of_group : IsBalancedPart es own.group taken
    part_of_group = balanced_from_rises es own.group (part_along es steps own.group along group_inside) taken
        taken_in_group level

    part_of_steps : IsBalancedPart es steps taken
    part_of_steps = balanced_from_rises es steps along taken (λ s c. group_inside s (taken_in_group s c)) level

    -- each stands once among them
    taken_once : HasEachOnce taken
    unfolding taken
    taken_once = AllPairs-from_each Differ (stretch walk i (suc n))
        (stretch_once own.group (other_hand filled) walk own.inside
        (alternating_steps_lead_on own.group group_alternates (other_hand filled)) i (suc n) (omega arith))

    -- the step after them is none of them
    next_not_taken : ¬ (Contains taken (step_round walk (suc (i + n))))
    unfolding taken
    next_not_taken c =
        let at = place_in_stretch walk i (suc n) (step_round walk (suc (i + n))) c in
        let to = at.2 in
        let one = once_each own.group (other_hand filled) walk own.inside
        (alternating_steps_lead_on own.group group_alternates (other_hand filled)) at.0 (suc (i + n))
        (omega arith) within at.3 in
        absurd (omega arith)

    -- the last of them is one
    last_taken : Contains taken (step_round walk (i + n))
    unfolding taken
    last_taken = last_in_stretch walk i n

    -- across the steps of the group
    across : WindingAcrossSteps es own.group taken
    across = winding_across_alternating_steps es own.group taken group_alternates taken_in_group

    -- there are no two visits
    no_second_visit : ⊥
    no_second_visit = not_both_alike filled es taken (step_round walk (i + n)) (step_round walk (suc (i + n)))
        (one_winding_along_orbits es steps taken along alternates part_of_steps filled
        own.group own.grouped
        (step_round walk (i + n)) (step_round walk (suc (i + n))) (walk_in_group (i + n)) (walk_in_group (suc (i + n))))
        (one_winding_to_the_next es own.group taken (part_along es steps own.group along group_inside) group_alternates
        part_of_group (other_hand filled)
        (step_round walk (i + n)) (step_round walk (suc (i + n))) (walk_in_group (i + n))
        (goes_on_round own.group (other_hand filled) walk own.inside (i + n)))
        (across.rises taken_once (step_round walk (i + n)) last_taken)
        (across.stays (step_round walk (suc (i + n))) (walk_in_group (suc (i + n))) next_not_taken)

  -- steps at two places leave two points
  apart_at : (i j : ℕ) → i < j → j < length walk → ¬ ((step_round walk i).from ≡ (step_round walk j).from)
  apart_at i j less within same =
      let split : j ≡ suc (i + (j - suc i)) = omega arith in
      no_second_visit i (j - suc i) (omega arith) (same ∙ ap (λ k. (step_round walk k).from) split)

  -- no point occurs twice
  points_once : HasEachPointOnce (points_of walk)
  points_once = AllPairs-from_each (λ p q. point_eq p q ≡ false) (points_of walk)
      (Each-map (λ s t. point_eq s.from t.from ≡ false) (λ p q. point_eq p q ≡ false) (λ s. s.from) walk
      (λ s t c d apart. apart)
      (Each-from_all_pairs (λ s t. point_eq s.from t.from ≡ false) walk pairs))
    where
      at : (k : ℕ) (d : Step) → k < length walk → step_round walk k ≡ get_or walk k d
      at k d h = item_round-here walk no_step k h ∙ get_or_default walk k no_step d h

      pairs : AllPairs (λ (s t : Step). point_eq s.from t.from ≡ false) walk
      pairs i j d less within = false_from_ne_true (point_eq (get_or walk i d).from (get_or walk j d).from)
          (λ same. apart_at i j less within (ap (λ s. s.from) (at i d (omega arith))
          ∙ point_eq-same (get_or walk i d).from (get_or walk j d).from same
          ∙ ap (λ s. s.from) (sym (at j d within))))

-- the law
pub walks_inside_groups_are_simple : WalksInsideGroupsAreSimple
walks_inside_groups_are_simple es steps along alternates filled walk own = record {
  contour = orbits_are_contours own.group (group_alternates es steps along alternates filled walk own)
      (other_hand filled) walk own.inside;
  points_once = points_once es steps along alternates filled walk own;
}
