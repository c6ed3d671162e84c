-- The steps that the fill bits tell of are the selected steps.
use Rattle.std.proofs.Common.{◌≡◌, Bool, not, cond, List, [], ◌∷◌, ◌++◌, map, ap, ap₂, ◌∙◌}
use Rattle.std.specs.List.{flat_map}
use Rattle.std.proofs.lemmas.List.Folds.{flat_map-map}
use Rattle.overlay_geom.specs.Plane.{Step}
use Rattle.overlay_geom.specs.Edges.{CountedEdge, ends_of, subj_of, clip_of}
use Rattle.overlay_geom.specs.Rules.{rule_holds, rules_hold, fills_of, fill_bits}
use Rattle.overlay_geom.specs.declared.fill_rule.FillRule.{FillRule}
use Rattle.overlay_geom.specs.declared.overlay_rule.OverlayRule.{OverlayRule}
use Rattle.overlay_plane.specs.Regions.{holds_above, holds_below}
use Rattle.overlay_plane.specs.SelectedSteps.{step_with_left, selected_steps}
use Rattle.overlay_plane.specs.Turn.{Hand, is_left_hand}
use Rattle.overlay_plane.proofs.Entries.{flat_map-same}
use Rattle.overlay_order.specs.Vectors.{Vector, vector_of}
use Rattle.overlay_graph.proofs.SideBits.{bits_show_sides}
use Rattle.overlay_walk.specs.Selection.{bits_hold_above, bits_hold_below, steps_by_bits}

module _ (fill : FillRule) (rule : OverlayRule) (es : List CountedEdge) where
  -- the bits tell whether the rules hold above an edge, and below it
  above_by_bits : (e : CountedEdge) → bits_hold_above rule (fill_bits fill es e) ≡ holds_above (rules_hold fill rule)
      subj_of clip_of es e
  above_by_bits e = let shown = bits_show_sides (fills_of fill es e) in
      ap₂ (rule_holds rule) shown.subj_above shown.clip_above

  below_by_bits : (e : CountedEdge) → bits_hold_below rule (fill_bits fill es e) ≡ holds_below (rules_hold fill rule)
      subj_of clip_of es e
  below_by_bits e = let shown = bits_show_sides (fills_of fill es e) in
      ap₂ (rule_holds rule) shown.subj_below shown.clip_below

  -- the step along an edge by whether the rules hold above it and below it
  abbrev steps_between_sides : Hand → CountedEdge → Bool → Bool → List Step
  steps_between_sides filled e above below = cond (cond above (not below) below)
      (step_with_left (cond (is_left_hand filled) above below) (ends_of e) ∷ []) []

  -- the bits tell the selected steps
  selected_by_bits : (filled : Hand) → flat_map (steps_by_bits rule filled) (map (vector_of fill es) es)
      ≡ selected_steps (rules_hold fill rule) subj_of clip_of filled es
  selected_by_bits filled =
      flat_map-map (steps_by_bits rule filled) (vector_of fill es) es
      ∙ flat_map-same (λ e. steps_by_bits rule filled (vector_of fill es e))
      (λ e. steps_between_sides filled e (holds_above (rules_hold fill rule) subj_of clip_of es e)
      (holds_below (rules_hold fill rule) subj_of clip_of es e)) es
      (λ e c. ap₂ (steps_between_sides filled e) (above_by_bits e) (below_by_bits e))

  -- the vectors of the edges tell the selected steps
  selected_by_vectors : (filled : Hand) (vs : List Vector) → vs ≡ map (vector_of fill es) es →
      flat_map (steps_by_bits rule filled) vs ≡ selected_steps (rules_hold fill rule) subj_of clip_of filled es
  selected_by_vectors filled vs are = ap (flat_map (steps_by_bits rule filled)) are ∙ selected_by_bits filled

  -- the steps that they tell, in a list without steps
  pub selected_in_room : (filled : Hand) (room : List Step) (vs : List Vector) (ss : List Step) → room ≡ [] →
      vs ≡ map (vector_of fill es) es →
      ss ≡ room ++ flat_map (steps_by_bits rule filled) vs →
      ss ≡ selected_steps (rules_hold fill rule) subj_of clip_of filled es
  selected_in_room filled room vs ss none are is = is
      ∙ ap₂ (λ old new. old ++ new) none (selected_by_vectors filled vs are)
