-- A permutation of the selected steps of a graph: what a cut with groups needs of it, and gives.
use Rattle.std.proofs.Common.{ℕ, ℤ, Bool, List, All}
use Rattle.std.specs.List.Sorted.{IsPermutation}
use Rattle.std.proofs.lemmas.List.Elements.{All-weaker}
use Rattle.std.proofs.lemmas.List.Sorted.{All-permutation}
use Rattle.overlay_geom.specs.Plane.{Step}
use Rattle.overlay_geom.specs.Edges.{CountedEdge, subj_of, clip_of}
use Rattle.overlay_geom.specs.declared.fill_rule.FillRule.{FillRule}
use Rattle.overlay_geom.specs.declared.overlay_rule.OverlayRule.{OverlayRule}
use Rattle.overlay_geom.specs.Rules.{rules_hold}
use Rattle.overlay_plane.specs.Alternates.{Alternates}
use Rattle.overlay_plane.specs.Balance.{HasBalancedCounts}
use Rattle.overlay_plane.specs.BesideOrbits.{HasEachOnce}
use Rattle.overlay_plane.specs.Groups.{IsInsideAGroup, IsSimpleContour}
use Rattle.overlay_plane.specs.RoledContours.{Contour, IsCutInGroups}
use Rattle.overlay_plane.specs.SelectedSteps.{selected_steps}
use Rattle.overlay_plane.specs.Regions.{IsRuled}
use Rattle.overlay_plane.specs.Turn.{Hand}
use Rattle.overlay_plane.proofs.CutWindings.{selected_alternate}
use Rattle.overlay_plane.proofs.GroupedCuts.{contours_are_inside_groups}
use Rattle.overlay_plane.proofs.InsideGroups.{walks_inside_groups_are_simple}
use Rattle.overlay_plane.proofs.ShuffledCuts.{same_shuffled, shuffled_alternate, shuffled_once}
use Rattle.overlay_plane.proofs.WalksOfCuts.{selected_along}
use Rattle.overlay_order.proofs.RuledContents.{ruled_content}
use Rattle.overlay_graph.specs.Graphs.{IsArrangement}
use Rattle.overlay_walk.specs.Steps.{IsLong}
use Rattle.overlay_walk.proofs.SelectedLong.{selected_are_long}
use Rattle.overlay_walk.proofs.SplitGroups.{grouped_alike}

module _ (limit : ℕ) (es : List CountedEdge) (arranged : IsArrangement limit es) (balanced : HasBalancedCounts es)
    (fill : FillRule) (rule : OverlayRule) (filled : Hand) where
  abbrev holds : ℤ → ℤ → Bool
  holds = rules_hold fill rule

  abbrev selected : List Step
  selected = selected_steps holds subj_of clip_of filled es

  abbrev ruled : IsRuled holds subj_of clip_of es
  ruled = ruled_content limit es arranged.content arranged.ascending arranged.settled balanced fill rule

  module _ (steps : List Step) (moved : IsPermutation selected steps) where
    -- they alternate, each stands once, and each is long
    pub open_alternate : Alternates steps
    open_alternate = shuffled_alternate holds subj_of clip_of es filled ruled steps moved

    pub open_once : HasEachOnce steps
    open_once = shuffled_once holds subj_of clip_of es filled ruled steps moved

    pub open_long : All (IsLong limit) steps
    open_long = All-permutation (IsLong limit) selected steps moved
        (selected_are_long limit es arranged.content holds subj_of clip_of filled)

    -- a cut of them is one of the selected steps
    pub cut_of_selected : (keeps : List Step → Bool) (contours : List Contour) →
        IsCutInGroups filled keeps steps contours → IsCutInGroups filled keeps selected contours
    cut_of_selected keeps contours cut = let same = same_shuffled selected steps moved in
        grouped_alike filled keeps steps selected (same.1, same.0) contours cut

  -- its contours are simple
  pub cut_is_simple : (keeps : List Step → Bool) (contours : List Contour) →
      IsCutInGroups filled keeps selected contours → All (λ c. IsSimpleContour c.steps) contours
  cut_is_simple keeps contours cut =
      let along = selected_along holds subj_of clip_of es filled ruled in
      let alternate = selected_alternate holds subj_of clip_of es ruled filled in
      All-weaker (λ (d : Contour). IsInsideAGroup filled selected d.steps)
      (λ (d : Contour). IsSimpleContour d.steps)
      (λ d own. walks_inside_groups_are_simple es selected along alternate filled d.steps own)
      contours (contours_are_inside_groups es selected along alternate filled keeps contours cut)
