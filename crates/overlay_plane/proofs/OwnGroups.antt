-- With groups the contours of a shape from the start are walks of its outline's group. Along the group any of the steps
-- have a constant winding on the filled sides, and the outline winds once there.
use Rattle.std.proofs.Common.{◌≡◌, ⊎_elim, ℕ, Bool, true, false, not, List, [], ◌∷◌, map, length, Contains}
use Rattle.std.proofs.Common.{Some}
use Rattle.std.proofs.Common.{filter, cond, refl, sym, ap, ◌∙◌, subst, arith}
use Rattle.std.specs.List.{flat_map}
use Rattle.std.proofs.lemmas.Bool.{false_from_ne_true, not-true}
use Rattle.std.proofs.lemmas.List.Elements.{Contains-append_cases}
use Rattle.std.proofs.lemmas.Option.{none-some}
use Rattle.overlay_geom.specs.Plane.{Step}
use Rattle.overlay_geom.specs.Edges.{CountedEdge}
use Rattle.overlay_plane.specs.Turn.{Hand, other_hand, IsOrbit, step_round}
use Rattle.overlay_plane.specs.Alternates.{Alternates}
use Rattle.overlay_plane.specs.BesideOrbits.{winding_beside, WalksAlong, IsBalancedPart}
use Rattle.overlay_plane.specs.Contours.{is_filled_above, IsStart, IsCutInto, done, next}
use Rattle.overlay_plane.specs.ContourWindings.{once_round}
use Rattle.overlay_plane.specs.Binding.{is_hole}
use Rattle.overlay_plane.specs.RoledContours.{outline, Contour, stands_in, kept_group, hole_to_bind}
use Rattle.overlay_plane.specs.RoledContours.{group_contours_from, IsCutInGroups}
use Rattle.overlay_plane.proofs.BalancedSteps.{orbits_are_balanced, orbits_have_each_once}
use Rattle.overlay_plane.proofs.BesideNext.{one_winding_along_orbits}
use Rattle.overlay_plane.proofs.CutByOneHand.{IsFromStart, walks_from_starts}
use Rattle.overlay_plane.proofs.Entries.{Contains-from_filter, Contains-from_flat_map, Contains-from_map}
use Rattle.overlay_plane.proofs.GroupSteps.{part_along, orbit_inside, orbit_alternates}
use Rattle.overlay_plane.proofs.GroupedWalks.{in_first}
use Rattle.overlay_plane.proofs.HoleWindings.{filled_over}
use Rattle.overlay_plane.proofs.InsideOneGroup.{group_of}
use Rattle.overlay_plane.proofs.LaterEntries.{Contains-cases}
use Rattle.overlay_plane.proofs.NextSteps.{alternating_steps_lead_on}
use Rattle.overlay_plane.proofs.NumberedContours.{AreOfGroup, group_of_number}
use Rattle.overlay_plane.proofs.OwnContours.{HaveOwn, first_not_filled}
use Rattle.overlay_plane.proofs.StartWindings.{none_over_start, once_beside_start, once_not_none}
use Rattle.overlay_plane.proofs.Totals.{Contains-head, Contains-later}

-- the first walk of a cut has the start of the steps
pub record HasStart (hand : Hand) (steps walk : List Step) : Type 0 where
  pub start : Step
  pub is : IsStart steps start
  pub among : Contains walk start
  pub orbit : IsOrbit steps hand walk

first_has_start : (hand : Hand) (steps : List Step) (walks : List (List Step)) → IsCutInto (λ s. hand) steps walks →
    (u : List Step) (us : List (List Step)) → walks ≡ u ∷ us → HasStart hand steps u
first_has_start hand steps walks done u us is = absurd (omega (arith, ap length is))
first_has_start hand steps walks (next {s} {ss} {rest} start orbit cut) u us is =
    subst (λ w. HasStart hand steps w) (ap first_of is) (record {
      start = s;
      is = start;
      among = Contains-head s ss;
      orbit = orbit;
    })
  where
    first_of : List (List Step) → List Step
    first_of [] = []
    first_of (w ∷ ws) = w

-- ---- one group

module _ (es : List CountedEdge) (steps : List Step) (along : WalksAlong es steps) (alternates : Alternates steps)
    (filled : Hand) (group : List Step) (own : IsFromStart steps filled group)
    (outer : is_hole filled group ≡ false) where
  abbrev start : Step
  start = step_round group 0

  group_alternates : Alternates group
  group_alternates = orbit_alternates steps alternates filled group own.orbit

  pub group_inside : (s : Step) → Contains group s → Contains steps s
  group_inside = orbit_inside steps alternates filled group own.orbit

  whole_part : IsBalancedPart es steps group
  whole_part = orbits_are_balanced es steps along filled group own.orbit

  -- the group winds once on its filled side
  group_once : (s : Step) → Contains group s → winding_beside filled es group s ≡ once_round filled
  group_once s c =
      one_winding_along_orbits es steps group along alternates whole_part filled group own.orbit s start c
      own.start.among
      ∙ once_beside_start es steps group along alternates filled whole_part start own.start
      (orbits_have_each_once steps filled (alternating_steps_lead_on steps alternates filled) group own.orbit)
      (first_not_filled filled group outer own.orbit.some)

  -- none of its starts is filled above
  starts_below : (s : Step) → IsStart group s → is_filled_above filled s ≡ false
  starts_below s is = false_from_ne_true (is_filled_above filled s)
      (λ over. once_not_none filled (sym (group_once s is.among) ∙ filled_over filled es group s over
      ∙ none_over_start es steps group along alternates filled whole_part s is))

  -- a walk in it that has a start of it winds once on the filled sides of the group
  pub outline_once : (walk : List Step) → HasStart (other_hand filled) group walk → (t : Step) → Contains group t →
      winding_beside filled es walk t ≡ once_round filled
  outline_once walk has t c =
      one_winding_along_orbits es steps walk along alternates part filled group own.orbit t has.start c has.is.among
      ∙ once_beside_start es steps walk along alternates filled part has.start
      (record {
        among = has.among;
        lowest = λ s d. has.is.lowest s (in_group s d);
        top = λ s d. has.is.top s (in_group s d);
      })
      (orbits_have_each_once group (other_hand filled)
      (alternating_steps_lead_on group group_alternates (other_hand filled)) walk has.orbit)
      (starts_below has.start has.is)
    where
      in_group : (s : Step) → Contains walk s → Contains group s
      in_group = orbit_inside group group_alternates (other_hand filled) walk has.orbit

      part : IsBalancedPart es steps walk
      part = record {
        inside = λ s d. group_inside s (in_group s d);
        balanced = (orbits_are_balanced es group (part_along es steps group along group_inside) (other_hand filled) walk
            has.orbit).balanced;
      }

-- ---- the contours of a cut

-- the kept walks of a group begin with its first walk, followed by some of its others
kept_of_group : (keeps : List Step → Bool) (vs walks : List (List Step)) → Contains (kept_group keeps vs) walks →
    (u : List Step) × (us : List (List Step)) × (vs ≡ u ∷ us) × (walks ≡ u ∷ filter keeps us)
kept_of_group keeps [] walks c = absurd (elim c.1 [ ])
kept_of_group keeps (v ∷ vs) walks c = by (keeps v) c
  where
    by : (t : Bool) → Contains (cond t ((v ∷ filter keeps vs) ∷ []) []) walks →
        (u : List Step) × (us : List (List Step)) × (v ∷ vs ≡ u ∷ us) × (walks ≡ u ∷ filter keeps us)
    by true d = ⊎_elim (λ same. (v, vs, refl, sym same)) (λ later. absurd (elim later.1 [ ]))
        (Contains-cases (v ∷ filter keeps vs) [] walks d)
    by false d = absurd (elim d.1 [ ])

module _ (es : List CountedEdge) (steps : List Step) (along : WalksAlong es steps) (alternates : Alternates steps)
    (filled : Hand) (keeps : List Step → Bool) (contours : List Contour)
    (cut : IsCutInGroups filled keeps steps contours) (n : ℕ) (o : Contour)
    (at_o : Contains contours o) (is_o : o.role ≡ outline n) where
  abbrev kept : List (List (List Step))
  kept = flat_map (kept_group keeps) cut.inside

  -- a contour of a shape from the start is a contour of a kept group
  of_group : (c : Contour) → Contains contours c → stands_in c.role ≡ Some n → Contains (group_contours_from 0 kept) c
  of_group c at stands = ⊎_elim (λ here. here)
      (λ other. let found = Contains-from_map hole_to_bind (filter keeps cut.others) c other in
      absurd (none-some n (ap (λ (d : Contour). stands_in d.role) found.2 ∙ stands)))
      (Contains-append_cases (group_contours_from 0 kept) (map hole_to_bind (filter keeps cut.others)) c
      (subst (λ cs. Contains cs c) cut.are at))

  one : AreOfGroup kept 0 n
  one = group_of_number 0 kept n o (of_group o at_o (ap stands_in is_o)) is_o

  -- the walks of the group, before some are left out
  source : (vs : List (List Step)) × Contains cut.inside vs × Contains (kept_group keeps vs) one.walks
  source = Contains-from_flat_map (kept_group keeps) cut.inside one.walks one.among

  parts : (u : List Step) × (us : List (List Step)) × (source.0 ≡ u ∷ us) × (one.walks ≡ u ∷ filter keeps us)
  parts = kept_of_group keeps source.0 one.walks source.2

  -- the group
  found : (g : List Step) × Contains (filter (λ h. not (is_hole filled h)) cut.groups) g
      × IsCutInto (λ s. other_hand filled) g source.0
  found = in_first (λ group walks. IsCutInto (λ s. other_hand filled) group walks)
      (filter (λ g. not (is_hole filled g)) cut.groups) cut.inside cut.cut_inside source.0 source.1

  abbrev group : List Step
  group = found.0

  group_parts : Contains cut.groups group × (not (is_hole filled group) ≡ true)
  group_parts = Contains-from_filter (λ h. not (is_hole filled h)) cut.groups group found.1

  own : IsFromStart steps filled group
  own = group_of steps alternates filled cut.groups cut.grouped group group_parts.0

  outer : is_hole filled group ≡ false
  outer = not-true (is_hole filled group) group_parts.1

  alternate : Alternates group
  alternate = orbit_alternates steps alternates filled group own.orbit

  -- a walk of the kept group is one of the group
  walk_of : (w : List Step) → Contains one.walks w → Contains source.0 w
  walk_of w c = subst (λ ws. Contains ws w) (sym parts.2) (⊎_elim
      (λ same. subst (λ v. Contains (parts.0 ∷ parts.1) v) same (Contains-head parts.0 parts.1))
      (λ later. Contains-later parts.0 parts.1 w (Contains-from_filter keeps parts.1 w later).0)
      (Contains-cases parts.0 (filter keeps parts.1) w (subst (λ ws. Contains ws w) parts.3 c)))

  -- its steps are steps of the group
  in_group : (c : Contour) → Contains contours c → stands_in c.role ≡ Some n → (s : Step) → Contains c.steps s →
      Contains group s
  in_group c at stands s d = orbit_inside group alternate (other_hand filled) c.steps
      (walks_from_starts (other_hand filled) group (alternating_steps_lead_on group alternate (other_hand filled))
      source.0 found.2 c.steps (walk_of c.steps (one.each c (of_group c at stands) stands))).orbit s d

  -- the outline is the first of them
  outline_is : parts.0 ≡ o.steps
  outline_is = let first = one.first o (of_group o at_o (ap stands_in is_o)) is_o in
      ap first_of (sym parts.3 ∙ first.1)
    where
      first_of : List (List Step) → List Step
      first_of [] = []
      first_of (w ∷ ws) = w

  has_start : HasStart (other_hand filled) group o.steps
  has_start = subst (λ w. HasStart (other_hand filled) group w) outline_is
      (first_has_start (other_hand filled) group source.0 found.2 parts.0 parts.1 parts.2)

  pub groups_have_own : HaveOwn filled es steps contours n o.steps
  groups_have_own = record {
    once = λ c at stands s in_c. outline_once es steps along alternates filled group own outer o.steps has_start s
        (in_group c at stands s in_c);
    alike = λ taken part one_each c d at_c at_d stands_c stands_d s t in_c in_d.
        one_winding_along_orbits es steps taken along alternates part filled group own.orbit s t
        (in_group c at_c stands_c s in_c) (in_group d at_d stands_d t in_d);
  }
