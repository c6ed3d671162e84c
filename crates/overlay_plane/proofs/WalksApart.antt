-- The walks that selected steps are cut into are contours along different edges, which meet in ends alone.
use Rattle.std.proofs.Common.{◌≡◌, false, Bool, ℤ, List, [], ◌∷◌, ◌++◌, map, All, Contains, AllPairs, refl, sym, ap}
use Rattle.std.proofs.Common.{◌∙◌, subst}
use Rattle.std.specs.List.{filter}
use Rattle.std.specs.List.Sorted.{IsPermutation}
use Rattle.std.proofs.lemmas.List.{map-append}
use Rattle.std.proofs.lemmas.List.Elements.{filter-append}
use Rattle.std.proofs.lemmas.List.Kept.{AllPairs-filter}
use Rattle.std.proofs.lemmas.List.Sorted.{Contains-permutation, IsPermutation-sym}
use Rattle.overlay_geom.specs.Plane.{Step, edge_of, edge_eq}
use Rattle.overlay_geom.specs.Edges.{CountedEdge}
use Rattle.overlay_geom.specs.Settled.{IsSettledBy}
use Rattle.overlay_geom.proofs.Mapped.{AllPairs-map}
use Rattle.overlay_plane.specs.SelectedSteps.{selected_steps}
use Rattle.overlay_plane.specs.Contours.{alternating, is_filled_above, outline_or_hole_hand, all_steps, IsContour}
use Rattle.overlay_plane.specs.Anchors.{HasEachEdgeOnce}
use Rattle.overlay_plane.specs.Binding.{AreCutFrom, all_filled_above, filled_above_edges}
use Rattle.overlay_plane.specs.Turn.{Hand, other_hand}
use Rattle.overlay_plane.proofs.CutWalks.{cuts_take_each_once}
use Rattle.overlay_plane.proofs.CutWindings.{selected_alternate}
use Rattle.overlay_plane.proofs.Entries.{all_of_entries}
use Rattle.overlay_plane.proofs.FilledEdges.{HaveSelected}
use Rattle.overlay_plane.proofs.SelectedWindings.{selected_steps_once}
use Rattle.overlay_plane.proofs.ShuffledPairs.{edges_once_shuffled}
use Rattle.overlay_plane.proofs.WalksOfCuts.{IsWalkOfCut, walk_of_a_cut, selected_along, edge_of_step, edges_meet}
use Rattle.overlay_plane.proofs.WalksOfCuts.{different_edges}

-- the filled-above edges of walks are those of all their steps
pub filled_above_of_all : (filled : Hand) (walks : List (List Step)) →
    all_filled_above filled walks ≡ filled_above_edges filled (all_steps walks)
filled_above_of_all filled [] = refl
filled_above_of_all filled (w ∷ ws) =
    ap (λ es. filled_above_edges filled w ++ es) (filled_above_of_all filled ws)
    ∙ sym (map-append edge_of (filter (is_filled_above filled) w) (filter (is_filled_above filled) (all_steps ws)))
    ∙ ap (map edge_of) (sym (filter-append (is_filled_above filled) w (all_steps ws)))

-- no two of them are equal where no edge stands twice among the steps
pub distinct_above : (filled : Hand) (walks : List (List Step)) → HasEachEdgeOnce (all_steps walks) →
    AllPairs (λ e f. edge_eq e f ≡ false) (all_filled_above filled walks)
distinct_above filled walks once = subst (λ fs. AllPairs (λ e f. edge_eq e f ≡ false) fs)
    (sym (filled_above_of_all filled walks))
    (AllPairs-map (λ e f. edge_eq e f ≡ false) edge_of (filter (is_filled_above filled) (all_steps walks))
    (AllPairs-filter (λ s t. edge_eq (edge_of s) (edge_of t) ≡ false) (is_filled_above filled) (all_steps walks) once))

module _ (holds : ℤ → ℤ → Bool) (subj clip : CountedEdge → ℤ) (es : List CountedEdge) (filled : Hand)
    (walks : List (List Step))
    (cut : AreCutFrom holds subj clip es filled walks) where
  -- the selected steps
  abbrev pub selected : List Step
  selected = selected_steps holds subj clip filled es

  -- the walks have them in another order
  pub walks_have_each_step : IsPermutation selected (all_steps walks)
  walks_have_each_step = cuts_take_each_once (outline_or_hole_hand filled) selected
      (alternating (selected_alternate holds subj clip es cut.ruled filled))
      (selected_steps_once holds subj clip es cut.ruled filled) walks cut.cut

  -- a walk's step is selected
  pub from_selected : (s : Step) → Contains (all_steps walks) s → Contains selected s
  from_selected s c = Contains-permutation (all_steps walks) selected s
      (IsPermutation-sym selected (all_steps walks) walks_have_each_step) c

  -- each walk is the first of those left
  pub own_walk : (walk : List Step) → Contains walks walk → IsWalkOfCut es (outline_or_hole_hand filled) selected walk
  own_walk = walk_of_a_cut holds subj clip es filled cut.ruled walks cut.cut

  -- each walk is a contour
  pub walks_are_contours : All IsContour walks
  walks_are_contours = all_of_entries IsContour walks
      (λ w c. (own_walk w c).contour)

  -- along each of its edges once
  pub walks_have_each_edge_once : All HasEachEdgeOnce walks
  walks_have_each_edge_once = all_of_entries HasEachEdgeOnce walks
      (λ w c. (own_walk w c).each_edge_once)

  -- no edge stands twice among all walks
  pub all_edges_once : HasEachEdgeOnce (all_steps walks)
  all_edges_once = edges_once_shuffled selected (all_steps walks) walks_have_each_step
      (different_edges selected (selected_alternate holds subj clip es cut.ruled filled) selected (λ s c. c)
      (selected_steps_once holds subj clip es cut.ruled filled))

  -- no two of the filled-above edges are equal
  pub filled_above_distinct : AllPairs (λ e f. edge_eq e f ≡ false) (all_filled_above filled walks)
  filled_above_distinct = distinct_above filled walks all_edges_once

  -- the edges meet in ends alone
  pub walks_settled : IsSettledBy edge_of (all_steps walks)
  walks_settled s t at_s at_t apart = edges_meet es cut.ruled.planar.settled (edge_of s) (edge_of t)
      (edge_of_step es selected (selected_along holds subj clip es filled cut.ruled) s (from_selected s at_s))
      (edge_of_step es selected (selected_along holds subj clip es filled cut.ruled) t (from_selected t at_t)) apart

  -- the walks have the selected steps, each once, and can be bound
  pub have_selected : HaveSelected holds subj clip es filled walks
  have_selected = record {
    ruled = cut.ruled;
    each_once = walks_have_each_step;
    bindable = record {
      contours = walks_are_contours;
      single = walks_have_each_edge_once;
      distinct_above = filled_above_distinct;
      distinct_below = distinct_above (other_hand filled) walks all_edges_once;
      settled = walks_settled;
    };
  }
