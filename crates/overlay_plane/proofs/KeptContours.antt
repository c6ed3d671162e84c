-- Contours that are kept of a cut of the selected steps can be bound: they walk along different edges, which meet in
-- ends alone. Where all are kept they take each step once.
use Rattle.std.proofs.Common.{Bool, ℤ, List, All, Contains, sym, subst}
use Rattle.std.specs.List.Sorted.{IsPermutation}
use Rattle.std.proofs.lemmas.List.Elements.{All-contains}
use Rattle.std.proofs.lemmas.List.Sorted.{Contains-permutation, IsPermutation-sym}
use Rattle.overlay_geom.specs.Plane.{Step, edge_of}
use Rattle.overlay_geom.specs.Edges.{CountedEdge}
use Rattle.overlay_plane.specs.Turn.{Hand, other_hand}
use Rattle.overlay_plane.specs.Alternates.{Alternates}
use Rattle.overlay_plane.specs.BesideOrbits.{WalksAlong, HasEachOnce}
use Rattle.overlay_plane.specs.SelectedSteps.{selected_steps}
use Rattle.overlay_plane.specs.Contours.{all_steps, IsContour}
use Rattle.overlay_plane.specs.Anchors.{HasEachEdgeOnce}
use Rattle.overlay_plane.specs.RoledContours.{Contour}
use Rattle.overlay_plane.specs.BoundContours.{walks_in}
use Rattle.overlay_plane.specs.Groups.{IsInsideAGroup, IsSimpleContour}
use Rattle.overlay_plane.specs.KeptContours.{CanBeBound, AreKeptContours, KeptContoursCanBeBound, KeptContoursAreSimple}
use Rattle.overlay_plane.specs.KeptContours.{KeepsAll, AllContoursTakeEachOnce}
use Rattle.overlay_plane.proofs.CutParts.{IsPartOfCut, part_by}
use Rattle.overlay_plane.proofs.CutWindings.{selected_alternate}
use Rattle.overlay_plane.proofs.Entries.{all_of_entries, Contains-flat_map, Contains-from_map}
use Rattle.overlay_plane.proofs.GroupedCuts.{contours_are_inside_groups}
use Rattle.overlay_plane.proofs.InsideGroups.{walks_inside_groups_are_simple}
use Rattle.overlay_plane.proofs.LaterEntries.{Each-from_all_pairs, AllPairs-from_each}
use Rattle.overlay_plane.proofs.PartsOfLists.{part-flat_map, Contains-part, Each-part}
use Rattle.overlay_plane.proofs.SelectedWindings.{selected_steps_once}
use Rattle.overlay_plane.proofs.ShuffledPairs.{once_shuffled}
use Rattle.overlay_plane.proofs.ShuffledSteps.{Differ}
use Rattle.overlay_plane.proofs.WalksApart.{distinct_above}
use Rattle.overlay_plane.proofs.WalksOfCuts.{selected_along, edge_of_step, edges_meet, different_edges}

module _ (holds : ℤ → ℤ → Bool) (subj clip : CountedEdge → ℤ) (es : List CountedEdge) (filled : Hand)
    (in_groups : Bool) (keeps : List Step → Bool) (contours : List Contour)
    (kept : AreKeptContours holds subj clip es filled in_groups keeps contours) where
  abbrev steps : List Step
  steps = selected_steps holds subj clip filled es

  abbrev walks : List (List Step)
  walks = walks_in contours

  alternates : Alternates steps
  alternates = selected_alternate holds subj clip es kept.ruled filled

  -- the contours are some of those that take each step once
  pub part_of_all : IsPartOfCut steps keeps walks
  part_of_all = part_by steps alternates (selected_steps_once holds subj clip es kept.ruled filled) filled keeps
      contours
      in_groups kept.cut

  -- their steps are selected steps
  pub kept_selected : (s : Step) → Contains (all_steps walks) s → Contains steps s
  kept_selected s c = let from = part_of_all in
      Contains-permutation (all_steps from.all) steps s (IsPermutation-sym steps (all_steps from.all) from.each_once)
      (Contains-part (all_steps walks) (all_steps from.all)
      (part-flat_map (λ (w : List Step). w) walks from.all from.part) s c)

  -- no step stands twice among them
  kept_once : HasEachOnce (all_steps walks)
  kept_once = let from = part_of_all in
      AllPairs-from_each Differ (all_steps walks)
      (Each-part Differ (all_steps walks) (all_steps from.all)
      (part-flat_map (λ (w : List Step). w) walks from.all from.part)
      (Each-from_all_pairs Differ (all_steps from.all)
      (once_shuffled steps (all_steps from.all) from.each_once
      (selected_steps_once holds subj clip es kept.ruled filled))))

  -- so no edge
  kept_edges_once : HasEachEdgeOnce (all_steps walks)
  kept_edges_once = different_edges steps alternates (all_steps walks) kept_selected kept_once

  -- each is a contour
  are_contours : All IsContour walks
  are_contours = all_of_entries IsContour walks (λ w c. All-contains IsContour part_of_all.all w part_of_all.contours
      (Contains-part walks part_of_all.all part_of_all.part w c))

  pub can_be_bound : CanBeBound filled walks
  can_be_bound = record {
    contours = are_contours;
    single = all_of_entries HasEachEdgeOnce walks (λ w c. different_edges steps alternates w
        (λ s d. kept_selected s (Contains-flat_map (λ (v : List Step). v) walks w s c d))
        (All-contains IsContour walks w are_contours c).once);
    distinct_above = distinct_above filled walks kept_edges_once;
    distinct_below = distinct_above (other_hand filled) walks kept_edges_once;
    settled = λ s t at_s at_t apart. edges_meet es kept.ruled.planar.settled (edge_of s) (edge_of t)
        (edge_of_step es steps (selected_along holds subj clip es filled kept.ruled) s (kept_selected s at_s))
        (edge_of_step es steps (selected_along holds subj clip es filled kept.ruled) t (kept_selected t at_t)) apart;
  }

  -- where all are kept they take each step once
  pub each_taken_once : KeepsAll keeps → IsPermutation steps (all_steps walks)
  each_taken_once all = subst (λ ws. IsPermutation steps (all_steps ws)) (sym (part_of_all.whole all))
      part_of_all.each_once

pub kept_contours_can_be_bound : KeptContoursCanBeBound
kept_contours_can_be_bound holds subj clip es filled in_groups keeps contours kept =
    can_be_bound holds subj clip es filled in_groups keeps contours kept

pub all_contours_take_each_once : AllContoursTakeEachOnce
all_contours_take_each_once holds subj clip es filled in_groups keeps contours kept all =
    each_taken_once holds subj clip es filled in_groups keeps contours kept all

-- with groups no contour visits a point twice
pub kept_contours_are_simple : KeptContoursAreSimple
kept_contours_are_simple holds subj clip es filled keeps contours kept =
    all_of_entries IsSimpleContour (walks_in contours) (λ w c.
    let found = Contains-from_map (λ (d : Contour). d.steps) contours w c in
    subst IsSimpleContour found.2
    (walks_inside_groups_are_simple es steps_selected along alternate filled found.0.steps
    (All-contains (λ (d : Contour). IsInsideAGroup filled steps_selected d.steps) contours found.0
    (contours_are_inside_groups es steps_selected along alternate filled keeps contours kept.cut) found.1)))
  where
    steps_selected : List Step
    steps_selected = selected_steps holds subj clip filled es

    along : WalksAlong es steps_selected
    along = selected_along holds subj clip es filled kept.ruled

    alternate : Alternates steps_selected
    alternate = selected_alternate holds subj clip es kept.ruled filled
