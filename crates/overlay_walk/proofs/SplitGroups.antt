-- The groups that are outlines, and the steps of those that are holes: they alternate, each stands once, and each is
-- long.
use Rattle.std.proofs.Common.{◌≡◌, Bool, not, ℤ, ℕ, List, [], ◌∷◌, ◌++◌, filter, All, Contains, Vec, refl, ap, ◌∙◌}
use Rattle.std.specs.List.{flat_map}
use Rattle.std.proofs.lemmas.List.{map-append}
use Rattle.std.proofs.lemmas.List.Elements.{All-contains}
use Rattle.overlay_geom.specs.Plane.{Step}
use Rattle.overlay_geom.proofs.Mapped.{map-filter}
use Rattle.overlay_plane.specs.Turn.{Hand}
use Rattle.overlay_plane.specs.Alternates.{Alternates}
use Rattle.overlay_plane.specs.BesideOrbits.{HasEachOnce}
use Rattle.overlay_plane.specs.Binding.{is_hole}
use Rattle.overlay_plane.specs.Contours.{IsCutInto, alternating, all_steps}
use Rattle.overlay_plane.specs.RoledContours.{Contour, IsCutInGroups}
use Rattle.overlay_plane.proofs.BalancedSteps.{orbits_have_each_once}
use Rattle.overlay_plane.proofs.CutWalks.{cuts_take_each_once}
use Rattle.overlay_plane.proofs.Entries.{all_of_entries, Contains-from_filter}
use Rattle.overlay_plane.proofs.GroupSteps.{orbit_inside, orbit_alternates}
use Rattle.overlay_plane.proofs.InsideOneGroup.{group_of, passing_inside, passing_alternate}
use Rattle.overlay_plane.proofs.KeptWalks.{kept_in_relation}
use Rattle.overlay_plane.proofs.LaterEntries.{Each-from_all_pairs, AllPairs-from_each}
use Rattle.overlay_plane.proofs.NextSteps.{alternating_steps_lead_on}
use Rattle.overlay_plane.proofs.ShuffledCuts.{HaveSame, cut_alike}
use Rattle.overlay_plane.proofs.ShuffledPairs.{once_shuffled}
use Rattle.overlay_plane.proofs.ShuffledSteps.{Differ}
use Rattle.overlay_walk.specs.declared.step.Step.{Step as StepTaken}
use Rattle.overlay_walk.specs.Steps.{plain_step, plain_steps, IsLong}
use Rattle.overlay_walk.specs.Walks.{plain_walks, IsOwnOrbit}
use Rattle.overlay_walk.proofs.OwnOrbits.{own_orbit}

module _ {I A : Type 0} (whole : I → ℤ) where
  -- the steps of groups
  steps_plain : (gs : List (Vec (StepTaken I) A)) →
      plain_steps whole (flat_map (λ (g : Vec (StepTaken I) A). g.items) gs) ≡ all_steps (plain_walks whole gs)
  steps_plain [] = refl
  steps_plain (g ∷ gs) = map-append (plain_step whole) g.items (flat_map (λ (h : Vec (StepTaken I) A). h.items) gs)
      ∙ ap (λ ss. plain_steps whole g.items ++ ss) (steps_plain gs)

  module _ (filled : Hand) (groups : List (Vec (StepTaken I) A)) where
    -- the outlines among them
    pub outlines_plain : (gs : List (Vec (StepTaken I) A)) →
        gs ≡ filter (λ g. not (is_hole filled (plain_steps whole g.items))) groups →
        plain_walks whole gs ≡ filter (λ g. not (is_hole filled g)) (plain_walks whole groups)
    outlines_plain gs are = ap (plain_walks whole) are
        ∙ map-filter (λ (g : Vec (StepTaken I) A). plain_steps whole g.items) (λ g. not (is_hole filled g)) groups

    -- the steps of the other groups
    pub holes_plain : (ss : List (StepTaken I)) →
        ss ≡ flat_map (λ g. g.items) (filter (λ (g : Vec (StepTaken I) A). is_hole filled (plain_steps whole g.items))
        groups) →
        plain_steps whole ss ≡ all_steps (filter (is_hole filled) (plain_walks whole groups))
    holes_plain ss are = ap (plain_steps whole) are
        ∙ steps_plain (filter (λ g. is_hole filled (plain_steps whole g.items)) groups)
        ∙ ap all_steps (map-filter (λ (g : Vec (StepTaken I) A). plain_steps whole g.items) (is_hole filled) groups)

-- the known facts of the steps
pub record AreGood (limit : ℕ) (steps : List Step) : Type 0 where
  pub alternate : Alternates steps
  pub once : HasEachOnce steps
  pub long : All (IsLong limit) steps

module _ (limit : ℕ) (steps : List Step) (good : AreGood limit steps) (filled : Hand) (groups : List (List Step))
    (grouped : IsCutInto (λ s. filled) steps groups) where
  -- is known of each group
  group_good : (g : List Step) → Contains groups g → AreGood limit g
  group_good g c =
      let own = group_of steps good.alternate filled groups grouped g c in
      record {
        alternate = orbit_alternates steps good.alternate filled g own.orbit;
        once = orbits_have_each_once steps filled
            (alternating_steps_lead_on steps good.alternate filled) g own.orbit;
        long = all_of_entries (IsLong limit) g
            (λ s d. All-contains (IsLong limit) steps s good.long
            (orbit_inside steps good.alternate filled g own.orbit s d));
      }

  -- the facts hold of the groups that are outlines
  pub outlines_good : All (AreGood limit) (filter (λ g. not (is_hole filled g)) groups)
  outlines_good = all_of_entries (AreGood limit) (filter (λ g. not (is_hole filled g)) groups)
      (λ g c. group_good g (Contains-from_filter (λ h. not (is_hole filled h)) groups g c).0)

  -- each of them is an orbit from its start
  pub outlines_own : All IsOwnOrbit (filter (λ g. not (is_hole filled g)) groups)
  outlines_own = all_of_entries IsOwnOrbit (filter (λ g. not (is_hole filled g)) groups)
      (λ g c. own_orbit steps good.alternate filled g (group_of steps good.alternate filled groups grouped g
      (Contains-from_filter (λ h. not (is_hole filled h)) groups g c).0))

  -- the facts hold of the steps of all other groups
  pub holes_good : AreGood limit (all_steps (filter (is_hole filled) groups))
  holes_good = record {
    alternate = passing_alternate steps good.alternate filled groups grouped (is_hole filled);
    once = AllPairs-from_each Differ (all_steps (filter (is_hole filled) groups))
        (kept_in_relation Differ (is_hole filled) groups
        (Each-from_all_pairs Differ (all_steps groups) (once_shuffled steps (all_steps groups)
        (cuts_take_each_once (λ s. filled) steps (alternating good.alternate) good.once groups grouped)
        good.once)));
    long = all_of_entries (IsLong limit) (all_steps (filter (is_hole filled) groups))
        (λ s d. All-contains (IsLong limit) steps s good.long
        (passing_inside steps good.alternate filled groups grouped (is_hole filled) s d));
  }

-- a permutation of the steps is cut with groups into equal contours
pub grouped_alike : (filled : Hand) (keeps : List Step → Bool) (xs ys : List Step) → HaveSame xs ys →
    (contours : List Contour) →
    IsCutInGroups filled keeps xs contours → IsCutInGroups filled keeps ys contours
grouped_alike filled keeps xs ys same contours cut = record {
  groups = cut.groups;
  grouped = cut_alike (λ s. filled) xs ys same cut.groups cut.grouped;
  inside = cut.inside;
  cut_inside = cut.cut_inside;
  others = cut.others;
  cut_others = cut.cut_others;
  are = cut.are;
}
