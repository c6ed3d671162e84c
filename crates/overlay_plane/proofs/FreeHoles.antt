-- Each hole whose shape is to be found has its empty side above its anchor. So where all contours of the cut are kept,
-- an edge is below it, and a shape is found for it.
use Rattle.std.proofs.Common.{◌≡◌, ⊎_elim, ℕ, suc, Bool, true, false, ℤ, List, [], ◌∷◌, ◌++◌, map, Contains, Option}
use Rattle.std.proofs.Common.{Some}
use Rattle.std.proofs.Common.{None, filter, refl, sym, ap, ◌∙◌, subst, arith}
use Rattle.std.specs.Prelude.{slice_index_or, MatchBool}
use Rattle.std.specs.List.{flat_map, slice_get}
use Rattle.std.proofs.lemmas.Bool.{eqb-true, false≢true}
use Rattle.std.proofs.lemmas.List.Elements.{Contains-append_cases}
use Rattle.overlay_geom.specs.Plane.{Step, Edge}
use Rattle.overlay_geom.specs.Edges.{CountedEdge}
use Rattle.overlay_plane.specs.Turn.{Hand, other_hand}
use Rattle.overlay_plane.specs.Alternates.{Alternates}
use Rattle.overlay_plane.specs.BesideOrbits.{WalksAlong}
use Rattle.overlay_plane.specs.SelectedSteps.{selected_steps}
use Rattle.overlay_plane.specs.Contours.{all_steps}
use Rattle.overlay_plane.specs.Anchors.{IsAnchor}
use Rattle.overlay_plane.specs.Binding.{is_hole}
use Rattle.overlay_plane.specs.RoledContours.{free_hole, Contour, is_free_hole, kept_group}
use Rattle.overlay_plane.specs.RoledContours.{hole_of_group, hole_to_bind, group_contours_from, outline_of}
use Rattle.overlay_plane.specs.RoledContours.{IsCut, IsCutInGroups, IsCutBy}
use Rattle.overlay_plane.specs.BoundContours.{IsParent, walks_in, has_one_shape}
use Rattle.overlay_plane.specs.ContourNumbers.{outline_count}
use Rattle.overlay_plane.specs.KeptContours.{AreKeptContours, KeepsAll, AllParentsAreFound, AllHolesHaveShapes}
use Rattle.overlay_plane.proofs.ContourNumbers.{cut_numbered, found_counted}
use Rattle.overlay_plane.proofs.CutByOneHand.{walks_from_starts}
use Rattle.overlay_plane.proofs.CutWindings.{selected_alternate}
use Rattle.overlay_plane.proofs.Entries.{Contains-from_map, Contains-from_filter}
use Rattle.overlay_plane.proofs.FilledEdges.{HaveSelected, selected_follow}
use Rattle.overlay_plane.proofs.GroupedCuts.{hole_steps_alternate}
use Rattle.overlay_plane.proofs.HolesInGroups.{empty_above_in_group}
use Rattle.overlay_plane.proofs.HoleWindings.{HasEmptyAbove, empty_above_anchor}
use Rattle.overlay_plane.proofs.InsideOneGroup.{group_of, orbits_of_hole_groups_are_inside_one}
use Rattle.overlay_plane.proofs.KeptContours.{can_be_bound, each_taken_once}
use Rattle.overlay_plane.proofs.LaterEntries.{Contains-cases}
use Rattle.overlay_plane.proofs.LostHoles.{HaveEmptyAbove, never_lost, no_hole_lost}
use Rattle.overlay_plane.proofs.NextSteps.{alternating_steps_lead_on}
use Rattle.overlay_plane.proofs.PlacesOfContours.{Contains-place}
use Rattle.overlay_plane.proofs.RoledWalks.{free_hole_at}
use Rattle.overlay_plane.proofs.RuledWalks.{FollowRule}
use Rattle.overlay_plane.proofs.WalksOfCuts.{selected_along, walk_of_a_cut}

-- no contour of an outline's group is such a hole
none_free : (n : ℕ) (gs : List (List (List Step))) (c : Contour) → Contains (group_contours_from n gs) c →
    ¬ (is_free_hole c.role ≡ true)
none_free n [] c at free = elim at.1 [ ]
none_free n ([] ∷ gs) c at free = none_free n gs c at free
none_free n ((o ∷ hs) ∷ gs) c at free = ⊎_elim
    (λ is. false≢true (ap (λ (d : Contour). is_free_hole d.role) is ∙ free))
    (λ later. ⊎_elim
    (λ of_group. let found = Contains-from_map (hole_of_group n) hs c of_group in
    false≢true (ap (λ (d : Contour). is_free_hole d.role) found.2 ∙ free))
    (λ rest. none_free (suc n) gs c rest free)
    (Contains-append_cases (map (hole_of_group n) hs) (group_contours_from (suc n) gs) c later))
    (Contains-cases (outline_of n o) (map (hole_of_group n) hs ++ group_contours_from (suc n) gs) c at)

module _ (holds : ℤ → ℤ → Bool) (subj clip : CountedEdge → ℤ) (es : List CountedEdge) (filled : Hand)
    (in_groups : Bool) (keeps : List Step → Bool) (contours : List Contour)
    (kept : AreKeptContours holds subj clip es filled in_groups keeps contours) where
  -- the selected steps
  abbrev steps : List Step
  steps = selected_steps holds subj clip filled es

  along : WalksAlong es steps
  along = selected_along holds subj clip es filled kept.ruled

  alternates : Alternates steps
  alternates = selected_alternate holds subj clip es kept.ruled filled

  -- the hole at a place has its empty side above its anchor
  abbrev IsEmptyAbove : Contour → Type 0
  IsEmptyAbove c = (e : Edge) → IsAnchor c.steps e → HasEmptyAbove filled c.steps e

  -- without groups
  empty_of_cut : IsCut filled keeps steps contours → (i : ℕ) (c : Contour) → slice_get contours i ≡ Some c →
      c.role ≡ free_hole → IsEmptyAbove c
  empty_of_cut cut i c at free e anchored =
      let there = free_hole_at filled 0 (filter keeps cut.walks) i c (ap (λ cs. slice_get cs i) (sym cut.are) ∙ at)
      free in
      let walk = Contains-from_filter keeps cut.walks c.steps
      (Contains-place (filter keeps cut.walks) i c.steps there.0) in
      empty_above_anchor es filled steps c.steps
      (walk_of_a_cut holds subj clip es filled kept.ruled cut.walks cut.cut c.steps walk.0) there.1 e anchored

  -- with groups
  empty_of_groups : IsCutInGroups filled keeps steps contours → (i : ℕ) (c : Contour) → slice_get contours i ≡ Some c →
      c.role ≡ free_hole → IsEmptyAbove c
  empty_of_groups cut i c at free = ⊎_elim
      (λ of_group. absurd (none_free 0 (flat_map (kept_group keeps) cut.inside) c of_group (ap is_free_hole free)))
      (λ other. let found = Contains-from_map hole_to_bind (filter keeps cut.others) c other in
      subst IsEmptyAbove found.2
      (of_other found.0 (Contains-from_filter keeps cut.others found.0 found.1).0))
      (Contains-append_cases (group_contours_from 0 (flat_map (kept_group keeps) cut.inside))
      (map hole_to_bind (filter keeps cut.others)) c
      (subst (λ cs. Contains cs c) cut.are (Contains-place contours i c at)))
    where
      -- the steps of all groups that are holes
      hole_steps : List Step
      hole_steps = all_steps (filter (is_hole filled) cut.groups)

      of_other : (w : List Step) → Contains cut.others w → (e : Edge) → IsAnchor w e → HasEmptyAbove filled w e
      of_other w c =
          let own = orbits_of_hole_groups_are_inside_one es steps along alternates filled cut.groups cut.grouped w
          (walks_from_starts (other_hand filled) hole_steps
          (alternating_steps_lead_on hole_steps (hole_steps_alternate steps alternates filled keeps contours cut)
          (other_hand filled)) cut.others cut.cut_others w c).orbit in
          empty_above_in_group es steps along alternates filled own.group
          (group_of steps alternates filled cut.groups cut.grouped own.group own.among) own.hole w own.inside

  -- by the option
  pub empty_by : (t : Bool) → IsCutBy t filled keeps steps contours → HaveEmptyAbove filled contours
  empty_by true cut = empty_of_groups cut
  empty_by false cut = empty_of_cut cut

  module _ (all : KeepsAll keeps) where
    -- the contours have the selected steps
    have_all : HaveSelected holds subj clip es filled (walks_in contours)
    have_all = record {
      ruled = kept.ruled;
      each_once = each_taken_once holds subj clip es filled in_groups keeps contours kept all;
      bindable = can_be_bound holds subj clip es filled in_groups keeps contours kept;
    }

    -- and follow the rule
    pub follow_all : FollowRule holds subj clip es filled (walks_in contours)
    follow_all = selected_follow holds subj clip es filled (walks_in contours) have_all

    -- so a shape is found for each such hole
    pub found_for_all : (i : ℕ) → IsParent filled contours i None → (c : Contour) →
        slice_get contours i ≡ Some c → ¬ (c.role ≡ free_hole)
    found_for_all = never_lost holds subj clip es filled contours follow_all (empty_by in_groups kept.cut)

    -- a shape that stands alone is the parent of each hole
    parent_by : (one : Bool) → has_one_shape contours ≡ one → (i : ℕ) (shape : Option ℕ) →
        IsParent filled contours i shape → (c : Contour) → slice_get contours i ≡ Some c → c.role ≡ free_hole →
        MatchBool one (shape ≡ Some 0) (IsParent filled contours i shape)
    parent_by true one i None parent c at free = absurd (found_for_all i parent c at free)
    parent_by true one i (Some m) parent c at free = ap Some
        (let lone = eqb-true (outline_count contours) 1 one in
        let low = found_counted filled contours (cut_numbered in_groups filled keeps steps contours kept.cut) i m
        parent in
        omega (arith, lone, low))
    parent_by false one i shape parent c at free = parent

-- the holes' parents are the shapes found
pub all_parents_are_found : AllParentsAreFound
all_parents_are_found holds subj clip es filled in_groups keeps contours kept all shapes counted parents = record {
  counted = counted;
  found = λ i c at free. parent_by holds subj clip es filled in_groups keeps contours kept all (has_one_shape contours)
      refl i (slice_index_or shapes i None) (parents i c at free) c at free;
}

-- no hole is lost
pub all_holes_have_shapes : AllHolesHaveShapes
all_holes_have_shapes holds subj clip es filled in_groups keeps contours kept all =
    no_hole_lost holds subj clip es filled contours
    (follow_all holds subj clip es filled in_groups keeps contours kept all)
    (empty_by holds subj clip es filled in_groups keeps contours kept in_groups kept.cut)
