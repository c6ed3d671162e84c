-- Alternating steps have one cut, also in groups: each walk is the orbit of the single start of the steps left.
use Rattle.std.proofs.Common.{◌≡◌, Bool, true, false, not, List, [], ◌∷◌, ◌++◌, map, Contains, filter, refl, sym, ap}
use Rattle.std.proofs.Common.{ap₂, ◌∙◌, subst, arith}
use Rattle.std.specs.List.{AllZip, flat_map}
use Rattle.overlay_geom.specs.Plane.{Step}
use Rattle.overlay_plane.specs.Alternates.{Alternates}
use Rattle.overlay_plane.specs.Binding.{is_hole}
use Rattle.overlay_plane.specs.Contours.{IsStart, IsCutInto, done, next, without, all_steps, outline_or_hole_hand}
use Rattle.overlay_plane.specs.RoledContours.{Contour, contours_from, hole_to_bind, group_contours_from, kept_group}
use Rattle.overlay_plane.specs.RoledContours.{IsCut, IsCutInGroups, IsCutBy}
use Rattle.overlay_plane.specs.Turn.{Hand, other_hand, IsOrbit, no_step}
use Rattle.overlay_plane.proofs.CutWalks.{left_alternates}
use Rattle.overlay_plane.proofs.Entries.{Contains-from_filter}
use Rattle.overlay_plane.proofs.GroupSteps.{orbit_alternates}
use Rattle.overlay_plane.proofs.InsideOneGroup.{group_of, passing_alternate}
use Rattle.overlay_plane.proofs.ItemsRound.{item_round-here}
use Rattle.overlay_plane.proofs.NextSteps.{alternating_steps_lead_on}
use Rattle.overlay_plane.proofs.OrbitsApart.{orbits_are_unique}
use Rattle.overlay_plane.proofs.Totals.{Contains-head, Contains-later}
use Rattle.overlay_extract.proofs.OneStart.{one_start}

-- no step is the start of none
none_starts : (s : Step) → ¬ (IsStart [] s)
none_starts s start = elim start.among.1 [ ]

-- two orbits of starts are equal
one_first : (hand_of : Step → Hand) (steps : List Step) → Alternates steps → (s t : Step) (ss ts : List Step) →
    IsStart steps s → IsStart steps t → IsOrbit steps (hand_of s) (s ∷ ss) → IsOrbit steps (hand_of t) (t ∷ ts) →
    s ∷ ss ≡ t ∷ ts
one_first hand_of steps alternates s t ss ts start other orbit orbit' =
    orbits_are_unique steps (hand_of s) (alternating_steps_lead_on steps alternates (hand_of s)) (s ∷ ss) (t ∷ ts)
    orbit (subst (λ u. IsOrbit steps (hand_of u) (t ∷ ts)) (sym same) orbit')
    (item_round-here (s ∷ ss) no_step 0 (omega arith) ∙ same
    ∙ sym (item_round-here (t ∷ ts) no_step 0 (omega arith)))
  where
    same : s ≡ t
    same = one_start steps alternates s t start other

-- two cuts are equal
pub one_cut : (hand_of : Step → Hand) (steps : List Step) → Alternates steps → (walks others : List (List Step)) →
    IsCutInto hand_of steps walks → IsCutInto hand_of steps others → walks ≡ others
one_cut hand_of steps alternates walks others done done = refl
one_cut hand_of steps alternates walks others done (next {s = t} start orbit cut) = absurd (none_starts t start)
one_cut hand_of steps alternates walks others (next {s = s} start orbit cut) done = absurd (none_starts s start)
one_cut hand_of steps alternates walks others (next {s = s} {ss = ss} {rest = rest} start orbit cut)
    (next {s = t} {ss = ts} {rest = rest'} start' orbit' cut') =
    ap₂ (λ w ws. w ∷ ws) same
    (one_cut hand_of (without steps (s ∷ ss)) (left_alternates steps alternates (hand_of s) (s ∷ ss) orbit) rest rest'
    cut (subst (λ w. IsCutInto hand_of (without steps w) rest') (sym same) cut'))
  where
    same : s ∷ ss ≡ t ∷ ts
    same = one_first hand_of steps alternates s t ss ts start start' orbit orbit'

-- the cuts of groups are equal
groups_once : (hand : Hand) (groups : List (List Step)) → ((g : List Step) → Contains groups g → Alternates g) →
    (inside others : List (List (List Step))) →
    AllZip (λ group walks. IsCutInto (λ s. hand) group walks) groups inside →
    AllZip (λ group walks. IsCutInto (λ s. hand) group walks) groups others → inside ≡ others
groups_once hand [] each [] [] cut cut' = refl
groups_once hand [] each [] (v ∷ vs) cut cut' = absurd cut'
groups_once hand [] each (w ∷ ws) others cut cut' = absurd cut
groups_once hand (g ∷ gs) each [] others cut cut' = absurd cut
groups_once hand (g ∷ gs) each (w ∷ ws) [] cut cut' = absurd cut'
groups_once hand (g ∷ gs) each (w ∷ ws) (v ∷ vs) cut cut' =
    ap₂ (λ x xs. x ∷ xs)
    (one_cut (λ s. hand) g (each g (Contains-head g gs)) w v cut.0 cut'.0)
    (groups_once hand gs (λ h c. each h (Contains-later g gs h c)) ws vs cut.1 cut'.1)

module _ (filled : Hand) (keeps : List Step → Bool) (steps : List Step) (alternates : Alternates steps) where
  -- without groups
  without_groups : (contours others : List Contour) → IsCut filled keeps steps contours →
      IsCut filled keeps steps others → contours ≡ others
  without_groups contours others cut cut' =
      cut.are ∙ ap (λ ws. contours_from filled 0 (filter keeps ws))
      (one_cut (outline_or_hole_hand filled) steps alternates cut.walks cut'.walks cut.cut cut'.cut)
      ∙ sym cut'.are

  -- with groups
  in_groups : (contours others : List Contour) → IsCutInGroups filled keeps steps contours →
      IsCutInGroups filled keeps steps others → contours ≡ others
  in_groups contours others cut cut' =
      cut.are ∙ ap₂ (λ ins ws. group_contours_from 0 (flat_map (kept_group keeps) ins) ++ map hole_to_bind
      (filter keeps ws)) same_inside same_others ∙ sym cut'.are
    where
      same_groups : cut.groups ≡ cut'.groups
      same_groups = one_cut (λ s. filled) steps alternates cut.groups cut'.groups cut.grouped cut'.grouped

      group_alternates : (g : List Step) → Contains (filter (λ h. not (is_hole filled h)) cut.groups) g → Alternates g
      group_alternates g c = orbit_alternates steps alternates filled g
          (group_of steps alternates filled cut.groups cut.grouped g
          (Contains-from_filter (λ h. not (is_hole filled h)) cut.groups g c).0).orbit

      same_inside : cut.inside ≡ cut'.inside
      same_inside = groups_once (other_hand filled) (filter (λ h. not (is_hole filled h)) cut.groups) group_alternates
          cut.inside cut'.inside cut.cut_inside
          (subst (λ gs. AllZip (λ group walks. IsCutInto (λ s. other_hand filled) group walks)
          (filter (λ h. not (is_hole filled h)) gs) cut'.inside) (sym same_groups) cut'.cut_inside)

      same_others : cut.others ≡ cut'.others
      same_others = one_cut (λ s. other_hand filled) (all_steps (filter (is_hole filled) cut.groups))
          (passing_alternate steps alternates filled cut.groups cut.grouped (is_hole filled)) cut.others cut'.others
          cut.cut_others
          (subst (λ gs. IsCutInto (λ s. other_hand filled) (all_steps (filter (is_hole filled) gs)) cut'.others)
          (sym same_groups) cut'.cut_others)

  -- by the option
  pub one_cut_by : (grouped : Bool) (contours others : List Contour) → IsCutBy grouped filled keeps steps contours →
      IsCutBy grouped filled keeps steps others → contours ≡ others
  one_cut_by true = in_groups
  one_cut_by false = without_groups
