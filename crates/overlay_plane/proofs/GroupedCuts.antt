-- Each contour of a cut with groups is an orbit by the empty hand inside a group. If all are kept they take each step
-- once.
use Rattle.std.proofs.Common.{inl, inr, ⊎_elim, Bool, true, false, not, List, [], ◌∷◌, ◌++◌, map, Contains, filter}
use Rattle.std.proofs.Common.{refl, sym, ap, ◌∙◌, subst}
use Rattle.std.specs.List.{AllZip, flat_map}
use Rattle.std.specs.List.Sorted.{IsPermutation}
use Rattle.std.proofs.lemmas.Grind.{flat_map-append}
use Rattle.std.proofs.lemmas.List.Elements.{All-contains, Contains-append_cases}
use Rattle.std.proofs.lemmas.List.Sorted.{IsPermutation-refl, IsPermutation-trans, IsPermutation-append}
use Rattle.overlay_geom.specs.Plane.{Step}
use Rattle.overlay_plane.specs.Alternates.{Alternates}
use Rattle.overlay_plane.specs.BesideOrbits.{HasEachOnce}
use Rattle.overlay_plane.specs.Contours.{IsCutInto, alternating, all_steps, IsContour}
use Rattle.overlay_plane.specs.Binding.{is_hole, walks_of}
use Rattle.overlay_plane.specs.RoledContours.{Contour, kept_group, IsCutInGroups}
use Rattle.overlay_plane.specs.BoundContours.{walks_in}
use Rattle.overlay_plane.specs.Groups.{IsInsideAGroup, ContoursAreInsideGroups, GroupedCutsTakeEachOnce}
use Rattle.overlay_plane.specs.Turn.{Hand, other_hand}
use Rattle.overlay_plane.proofs.BalancedSteps.{orbits_have_each_once}
use Rattle.overlay_plane.proofs.ClosedWalks.{cuts_are_contours}
use Rattle.overlay_plane.proofs.CutByOneHand.{walks_from_starts}
use Rattle.overlay_plane.proofs.CutWalks.{cuts_take_each_once}
use Rattle.overlay_plane.proofs.Entries.{all_of_entries, Contains-map, Contains-from_filter, Contains-from_flat_map}
use Rattle.overlay_plane.proofs.GroupSteps.{orbit_alternates}
use Rattle.overlay_plane.proofs.GroupedWalks.{in_first, grouped_walks, kept_of_groups, all_walks_kept}
use Rattle.overlay_plane.proofs.InsideOneGroup.{group_of, passing_alternate, orbits_of_hole_groups_are_inside_one}
use Rattle.overlay_plane.proofs.KeptWalks.{kept_in_relation}
use Rattle.overlay_plane.proofs.LaterEntries.{Each-from_all_pairs, AllPairs-from_each}
use Rattle.overlay_plane.proofs.NextSteps.{alternating_steps_lead_on}
use Rattle.overlay_plane.proofs.ShuffledPairs.{once_shuffled}
use Rattle.overlay_plane.proofs.ShuffledSteps.{Differ}
use Rattle.overlay_plane.proofs.SplitLists.{IsSplit, flat_map-split, filter-all}
use Rattle.overlay_plane.proofs.Totals.{Contains-head, Contains-later}

-- groups that are cut each have the steps of their walks
groups_cut : (filled : Hand) (groups : List (List Step)) →
    ((g : List Step) → Contains groups g → Alternates g × HasEachOnce g) →
    (inside : List (List (List Step))) → AllZip (λ group walks. IsCutInto (λ s. other_hand filled) group walks)
    groups inside →
    IsPermutation (all_steps groups) (all_steps (walks_of inside))
groups_cut filled [] each [] cut = IsPermutation-refl []
groups_cut filled [] each (ws ∷ inside) cut = absurd cut
groups_cut filled (g ∷ gs) each [] cut = absurd cut
groups_cut filled (g ∷ gs) each (ws ∷ inside) cut =
    let own = each g (Contains-head g gs) in
    subst (λ ss. IsPermutation (g ++ all_steps gs) ss)
    (sym (flat_map-append (λ (w : List Step). w) ws (walks_of inside)))
    (IsPermutation-append g (all_steps ws) (all_steps gs) (all_steps (walks_of inside))
    (cuts_take_each_once (λ s. other_hand filled) g (alternating own.0) own.1 ws cut.0)
    (groups_cut filled gs (λ h c. each h (Contains-later g gs h c)) inside cut.1))

-- a list splits into the entries that pass a test and those that fail
split_by : (b : Bool) → IsSplit true (not b) b
split_by true = inr (refl, refl)
split_by false = inl (refl, refl, refl)

module _ (steps : List Step) (alternates : Alternates steps) (filled : Hand) (keeps : List Step → Bool)
    (contours : List Contour)
    (cut : IsCutInGroups filled keeps steps contours) where
  -- the groups that are outlines, and the steps of those that are holes
  abbrev outline_groups : List (List Step)
  outline_groups = filter (λ g. not (is_hole filled g)) cut.groups

  abbrev hole_steps : List Step
  hole_steps = all_steps (filter (is_hole filled) cut.groups)

  -- the latter alternate
  pub hole_steps_alternate : Alternates hole_steps
  hole_steps_alternate = passing_alternate steps alternates filled cut.groups cut.grouped (is_hole filled)

  -- each outline's group is one of the groups
  outline_group_in : (g : List Step) → Contains outline_groups g → Contains cut.groups g
  outline_group_in g c = (Contains-from_filter (λ h. not (is_hole filled h)) cut.groups g c).0

  -- the steps alternate
  group_alternates : (g : List Step) → Contains cut.groups g → Alternates g
  group_alternates g c = orbit_alternates steps alternates filled g
      (group_of steps alternates filled cut.groups cut.grouped g c).orbit

  -- the walks of the outlines' groups are cut from one of these
  cut_from : (w : List Step) → Contains (walks_of cut.inside) w →
      (g : List Step) × Contains outline_groups g × (ws : List (List Step)) × IsCutInto (λ s. other_hand filled) g ws
      × Contains ws w
  cut_from w c =
      let found = Contains-from_flat_map (λ (ws : List (List Step)). ws) cut.inside w c in
      let own = in_first (λ group walks. IsCutInto (λ s. other_hand filled) group walks) outline_groups cut.inside
      cut.cut_inside found.0 found.1 in
      (own.0, own.1, found.0, own.2, found.2)

  -- the walks are inside this group
  inside_outline_group : (w : List Step) → Contains (walks_of cut.inside) w → IsInsideAGroup filled steps w
  inside_outline_group w c = let from = cut_from w c in record {
    group = from.0;
    grouped = (group_of steps alternates filled cut.groups cut.grouped from.0 (outline_group_in from.0 from.1)).orbit;
    inside = (walks_from_starts (other_hand filled) from.0
        (alternating_steps_lead_on from.0 (group_alternates from.0 (outline_group_in from.0 from.1))
        (other_hand filled)) from.2 from.3 w from.4).orbit;
  }

  -- the walks are contours
  pub outline_group_contour : (w : List Step) → Contains (walks_of cut.inside) w → IsContour w
  outline_group_contour w c = let from = cut_from w c in All-contains IsContour from.2 w
      (cuts_are_contours (λ s. other_hand filled) from.0 (group_alternates from.0 (outline_group_in from.0 from.1))
      from.2 from.3) from.4

  -- as are the others
  pub other_contour : (w : List Step) → Contains cut.others w → IsContour w
  other_contour w c = All-contains IsContour cut.others w
      (cuts_are_contours (λ s. other_hand filled) hole_steps hole_steps_alternate cut.others cut.cut_others) c

  -- the steps are those of the outlines' groups and those of the other groups
  pub all_walks_take_each_once : HasEachOnce steps → IsPermutation steps (all_steps (walks_of cut.inside ++ cut.others))
  all_walks_take_each_once once =
      subst (λ ss. IsPermutation steps ss)
      (sym (flat_map-append (λ (w : List Step). w) (walks_of cut.inside) cut.others))
      (IsPermutation-trans steps (all_steps cut.groups) (all_steps (walks_of cut.inside) ++ all_steps cut.others)
      in_groups
      (IsPermutation-trans (all_steps cut.groups) (all_steps outline_groups ++ hole_steps)
      (all_steps (walks_of cut.inside) ++ all_steps cut.others) split
      (IsPermutation-append (all_steps outline_groups) (all_steps (walks_of cut.inside)) hole_steps
      (all_steps cut.others)
      (groups_cut filled outline_groups
      (λ g c. (group_alternates g (outline_group_in g c), group_once g (outline_group_in g c))) cut.inside
      cut.cut_inside)
      (cuts_take_each_once (λ s. other_hand filled) hole_steps (alternating hole_steps_alternate) hole_steps_once
      cut.others cut.cut_others))))
    where
      in_groups : IsPermutation steps (all_steps cut.groups)
      in_groups = cuts_take_each_once (λ s. filled) steps (alternating alternates) once
          cut.groups cut.grouped

      split : IsPermutation (all_steps cut.groups) (all_steps outline_groups ++ hole_steps)
      split = subst (λ gs. IsPermutation (all_steps gs) (all_steps outline_groups ++ hole_steps))
          (filter-all cut.groups)
          (flat_map-split (λ (w : List Step). w) (λ g. true) (λ g. not (is_hole filled g)) (is_hole filled) cut.groups
          (λ g c. split_by (is_hole filled g)))

      group_once : (g : List Step) → Contains cut.groups g → HasEachOnce g
      group_once g c = orbits_have_each_once steps filled
          (alternating_steps_lead_on steps alternates filled) g
          (group_of steps alternates filled cut.groups cut.grouped g c).orbit

      hole_steps_once : HasEachOnce hole_steps
      hole_steps_once = AllPairs-from_each Differ hole_steps (kept_in_relation Differ (is_hole filled) cut.groups
          (Each-from_all_pairs Differ (all_steps cut.groups)
          (once_shuffled steps (all_steps cut.groups) in_groups once)))

-- each contour is inside a group
pub contours_are_inside_groups : ContoursAreInsideGroups
contours_are_inside_groups es steps along alternates filled keeps contours cut =
    all_of_entries (λ c. IsInsideAGroup filled steps c.steps) contours
    (λ c at. walk_inside c.steps (Contains-map (λ (d : Contour). d.steps) contours c at))
  where
    other_inside : (w : List Step) → Contains cut.others w → IsInsideAGroup filled steps w
    other_inside w c =
        let own = orbits_of_hole_groups_are_inside_one es steps along alternates filled cut.groups cut.grouped w
        (walks_from_starts (other_hand filled) (all_steps (filter (is_hole filled) cut.groups))
        (alternating_steps_lead_on (all_steps (filter (is_hole filled) cut.groups))
        (hole_steps_alternate steps alternates filled keeps contours cut) (other_hand filled))
        cut.others cut.cut_others w c).orbit in
        record {
          group = own.group;
          grouped = (group_of steps alternates filled cut.groups cut.grouped own.group own.among).orbit;
          inside = own.inside;
        }

    walk_inside : (w : List Step) → Contains (map (λ (d : Contour). d.steps) contours) w →
        IsInsideAGroup filled steps w
    walk_inside w c = ⊎_elim
        (λ of_group. inside_outline_group steps alternates filled keeps contours cut w
        (kept_of_groups keeps cut.inside w of_group))
        (λ other. other_inside w (Contains-from_filter keeps cut.others w other).0)
        (Contains-append_cases (walks_of (flat_map (kept_group keeps) cut.inside)) (filter keeps cut.others) w
        (subst (λ ws. Contains ws w) (ap (λ cs. walks_in cs) cut.are ∙ grouped_walks keeps cut.inside cut.others) c))

-- where all contours are kept they take each step once
pub grouped_cuts_take_each_once : GroupedCutsTakeEachOnce
grouped_cuts_take_each_once steps alternates once filled keeps all contours cut =
    subst (λ ws. IsPermutation steps (all_steps ws))
    (sym (ap (λ cs. walks_in cs) cut.are ∙ grouped_walks keeps cut.inside cut.others
    ∙ all_walks_kept keeps cut.inside cut.others
    (λ w c. all w (outline_group_contour steps alternates filled keeps contours cut w c))
    (λ w c. all w (other_contour steps alternates filled keeps contours cut w c))))
    (all_walks_take_each_once steps alternates filled keeps contours cut once)
