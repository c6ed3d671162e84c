-- If the steps of all hole groups are cut together, each orbit lies inside one of the groups. So each contour of a cut
-- with groups lies inside a group.
use Rattle.std.proofs.Common.{◌≡◌, ℕ, zero, suc, ◌+◌, Bool, true, false, List, Contains, filter, refl}
use Rattle.std.proofs.lemmas.Bool.{both_ways}
use Rattle.std.proofs.lemmas.List.Elements.{All-contains}
use Rattle.overlay_geom.specs.Plane.{Step}
use Rattle.overlay_plane.specs.Turn.{Hand, step_round, is_met_before, IsNextStep, other_hand}
use Rattle.overlay_plane.specs.Alternates.{Alternates}
use Rattle.overlay_plane.specs.NextSteps.{IsClosedUnderNext}
use Rattle.overlay_plane.specs.Orbits.{is_step_of}
use Rattle.overlay_plane.specs.Contours.{IsCutInto, all_steps}
use Rattle.overlay_plane.specs.Binding.{is_hole}
use Rattle.overlay_plane.specs.Groups.{OrbitsOfHoleGroupsAreInsideOne}
use Rattle.overlay_plane.proofs.ClosedParts.{closed_parts_alternate}
use Rattle.overlay_plane.proofs.CutByOneHand.{IsFromStart, walks_from_starts}
use Rattle.overlay_plane.proofs.Entries.{all_of_entries, Contains-filter, Contains-from_filter, Contains-flat_map}
use Rattle.overlay_plane.proofs.Entries.{Contains-from_flat_map}
use Rattle.overlay_plane.proofs.GroupSteps.{orbit_inside}
use Rattle.overlay_plane.proofs.HoleGroups.{stays_inside}
use Rattle.overlay_plane.proofs.NextSteps.{alternating_steps_lead_on}
use Rattle.overlay_plane.proofs.OrbitSteps.{goes_on_round, step_inside, orbits_are_cycles}
use Rattle.overlay_plane.proofs.OrbitsApart.{is_step_of_decides}
use Rattle.overlay_plane.proofs.ShuffledCuts.{alternate_alike}
use Rattle.overlay_plane.proofs.Tests.{same_tests}

-- a step is one of a walk's, where it is not none of them
pub not_none : (walk : List Step) (s : Step) → ¬ (¬ (Contains walk s)) → Contains walk s
not_none walk s against = by (is_step_of walk s) refl
  where
    by : (t : Bool) → is_step_of walk s ≡ t → Contains walk s
    by true e = (is_step_of_decides walk s).0 e
    by false e = absurd (against (λ c. both_ways (is_step_of walk s) e ((is_step_of_decides walk s).1 c)))

-- the next step in some steps is the next step among fewer of them
next_among_fewer : (steps part : List Step) → ((s : Step) → Contains part s → Contains steps s) →
    (hand : Hand) (s t : Step) → IsNextStep steps hand s t →
    Contains part t → IsNextStep part hand s t
next_among_fewer steps part inside hand s t next c = record {
  among = c;
  leaves = next.leaves;
  first = all_of_entries (λ u. u.from ≡ s.to → is_met_before hand s.to s.from u.to t.to ≡ false) part
      (λ u d. All-contains (λ u. u.from ≡ s.to → is_met_before hand s.to s.from u.to t.to ≡ false) steps u next.first
      (inside u d));
}

module _ (steps : List Step) (alternates : Alternates steps) (filled : Hand) (groups : List (List Step))
    (grouped : IsCutInto (λ s. filled) steps groups) where
  -- each group is an orbit, from its start
  pub group_of : (group : List Step) → Contains groups group → IsFromStart steps filled group
  group_of = walks_from_starts filled steps
      (alternating_steps_lead_on steps alternates filled) groups grouped

  module _ (test : List Step → Bool) where
    -- the steps of the groups that pass a test
    abbrev pub passing : List Step
    passing = all_steps (filter test groups)

    -- a step of them is in such a group
    pub found_group : (s : Step) → Contains passing s →
        (group : List Step) × Contains groups group × (test group ≡ true) × Contains group s
    found_group s c =
        let found = Contains-from_flat_map (λ (w : List Step). w) (filter test groups) s c in
        let own = Contains-from_filter test groups found.0 found.1 in
        (found.0, own.0, own.1, found.2)

    -- each step of such a group is one of them
    pub in_passing : (group : List Step) → Contains groups group → test group ≡ true → (s : Step) → Contains group s →
        Contains passing s
    in_passing group at passes s c = Contains-flat_map (λ (w : List Step). w) (filter test groups) group s
        (Contains-filter test groups group at passes) c

    -- they are among all steps
    pub passing_inside : (s : Step) → Contains passing s → Contains steps s
    passing_inside s c = let found = found_group s c in
        orbit_inside steps alternates filled found.0 (group_of found.0 found.1).orbit s found.3

    -- the steps contain with each step its next by the filled hand, and the step before
    closed : IsClosedUnderNext steps filled (is_step_of passing)
    closed s t c next = same_tests (is_step_of passing s) (is_step_of passing t)
        (λ e. let found = found_group s ((is_step_of_decides passing s).0 e) in
        (is_step_of_decides passing t).1 (in_passing found.0 found.1 found.2 t ((cycle found.0 found.1).0 found.3)))
        (λ e. let found = found_group t ((is_step_of_decides passing t).0 e) in
        (is_step_of_decides passing s).1 (in_passing found.0 found.1 found.2 s ((cycle found.0 found.1).1 found.3)))
      where
        cycle : (group : List Step) → Contains groups group →
            (Contains group s → Contains group t) × (Contains group t → Contains group s)
        cycle group at = (orbits_are_cycles steps filled
            (alternating_steps_lead_on steps alternates filled) group (group_of group at).orbit).closed s
            t c next

    -- the steps alternate
    pub passing_alternate : Alternates passing
    passing_alternate = alternate_alike (filter (is_step_of passing) steps) passing (
      (λ s c. (is_step_of_decides passing s).0 (Contains-from_filter (is_step_of passing) steps s c).1),
      (λ s c. Contains-filter (is_step_of passing) steps s (passing_inside s c) ((is_step_of_decides passing s).1 c)),
    )
        (closed_parts_alternate steps alternates filled (is_step_of passing) closed).taken_alternate

-- an orbit of the steps of hole groups stays inside the group of its first step
pub orbits_of_hole_groups_are_inside_one : OrbitsOfHoleGroupsAreInsideOne
orbits_of_hole_groups_are_inside_one es steps along alternates filled groups grouped walk orbit = record {
  group = found.0;
  among = found.1;
  hole = found.2;
  inside = record {
    some = orbit.some;
    goes_on = λ k h. next_among_fewer all found.0
        (in_passing steps alternates filled groups grouped (is_hole filled) found.0 found.1 found.2)
        (other_hand filled)
        (step_round walk k) (step_round walk (k + 1)) (orbit.goes_on k h) (stays (k + 1));
    once = orbit.once;
  };
}
  where
    all : List Step
    all = all_steps (filter (is_hole filled) groups)

    found : (group : List Step) × Contains groups group × (is_hole filled group ≡ true) × Contains group
        (step_round walk 0)
    found = found_group steps alternates filled groups grouped (is_hole filled) (step_round walk 0)
        (step_inside all (other_hand filled) walk orbit 0)

    stays : (k : ℕ) → Contains found.0 (step_round walk k)
    stays zero = found.3
    stays (suc k) =
        let after = found_group steps alternates filled groups grouped (is_hole filled) (step_round walk (suc k))
        (step_inside all (other_hand filled) walk orbit (suc k)) in
        not_none found.0 (step_round walk (suc k))
        (stays_inside es steps along alternates filled all
        (passing_inside steps alternates filled groups grouped (is_hole filled))
        (passing_alternate steps alternates filled groups grouped (is_hole filled)) found.0 after.0
        (group_of steps alternates filled groups grouped found.0 found.1)
        (group_of steps alternates filled groups grouped after.0 after.1) found.2 after.2
        (in_passing steps alternates filled groups grouped (is_hole filled) found.0 found.1 found.2)
        (in_passing steps alternates filled groups grouped (is_hole filled) after.0 after.1 after.2)
        (step_round walk k) (step_round walk (suc k)) (stays k) after.3
        (goes_on_round all (other_hand filled) walk orbit k))
