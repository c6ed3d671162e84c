-- The steps that the fill bits tell of are the filled sides; they lead between different points in range, along the
-- edges of an arrangement.
use Rattle.std.proofs.Common.{◌≡◌, ⊎_elim, ℕ, true, false, List, ◌++◌, map, All, sym, ap, ap₂}
use Rattle.std.proofs.Common.{◌∙◌, subst}
use Rattle.std.specs.List.{flat_map}
use Rattle.std.proofs.lemmas.List.Elements.{All-contains}
use Rattle.std.proofs.lemmas.List.Folds.{flat_map-map}
use Rattle.overlay_geom.specs.Edges.{CountedEdge, ends_of, subj_of}
use Rattle.overlay_geom.specs.Rules.{is_filled, fills_of}
use Rattle.overlay_geom.specs.declared.fill_rule.FillRule.{FillRule}
use Rattle.overlay_plane.specs.Balance.{HasBalancedCounts}
use Rattle.overlay_plane.specs.Nodes.{IsBalancedArrangement}
use Rattle.overlay_plane.specs.SelectedSteps.{step_with_left}
use Rattle.overlay_plane.proofs.Entries.{all_of_entries, flat_map-same}
use Rattle.overlay_plane.proofs.SameWay.{ends_differ}
use Rattle.overlay_order.specs.Content.{IsHeld}
use Rattle.overlay_order.specs.Vectors.{Vector, vector_of}
use Rattle.overlay_order.proofs.RuledContents.{planar_content}
use Rattle.overlay_graph.specs.Graphs.{IsArrangement}
use Rattle.overlay_graph.proofs.SideBits.{bits_show_sides}
use Rattle.overlay_extract.specs.FilledSides.{sides_of, filled_sides}
use Rattle.overlay_extract.specs.SidesByBits.{step_if, sides_by_bits}
use Rattle.overlay_extract.proofs.SideLists.{sides_listed}
use Rattle.overlay_walk.specs.Steps.{IsLong}

-- the sides by the bits of an edge
side_bits : (fill : FillRule) (es : List CountedEdge) (e : CountedEdge) →
    sides_by_bits (vector_of fill es e) ≡ sides_of (is_filled fill) subj_of es e
side_bits fill es e = let shown = bits_show_sides (fills_of fill es e) in
    ap₂ (λ above below. step_if above (step_with_left true (ends_of e)) ++ step_if below
    (step_with_left false (ends_of e))) shown.subj_above shown.subj_below

-- and by those of all edges
pub sides_from_vectors : (fill : FillRule) (es : List CountedEdge) (vs : List Vector) →
    vs ≡ map (vector_of fill es) es → flat_map sides_by_bits vs ≡ filled_sides (is_filled fill) subj_of es
sides_from_vectors fill es vs are = ap (flat_map sides_by_bits) are
    ∙ flat_map-map sides_by_bits (vector_of fill es) es
    ∙ flat_map-same (λ e. sides_by_bits (vector_of fill es e)) (sides_of (is_filled fill) subj_of es) es
    (λ e c. side_bits fill es e)

-- an arrangement whose counts are balanced
pub balanced_arrangement : (limit : ℕ) (es : List CountedEdge) → IsArrangement limit es → HasBalancedCounts es →
    IsBalancedArrangement subj_of es
balanced_arrangement limit es arranged balanced = record {
  planar = planar_content limit es arranged.content arranged.ascending arranged.settled;
  balanced = balanced.subj;
}

-- the filled sides of an arrangement
pub sides_are_long : (limit : ℕ) (fill : FillRule) (es : List CountedEdge) → IsArrangement limit es →
    HasBalancedCounts es → All (IsLong limit) (filled_sides (is_filled fill) subj_of es)
sides_are_long limit fill es arranged balanced = all_of_entries (IsLong limit)
    (filled_sides (is_filled fill) subj_of es)
    (λ s c.
    let side = (sides_listed (is_filled fill) subj_of es (balanced_arrangement limit es arranged balanced)).sides s c in
    let held = All-contains (IsHeld limit) es side.edge arranged.content.held side.along.entry in
    ⊎_elim
    (λ forth. subst (IsLong limit) (sym forth) (record {
      from_in_range = held.a_in_range;
      to_in_range = held.b_in_range;
      apart = ends_differ (ends_of side.edge) held.forward;
    }))
    (λ back. subst (IsLong limit) (sym back) (record {
      from_in_range = held.b_in_range;
      to_in_range = held.a_in_range;
      apart = λ same. ends_differ (ends_of side.edge) held.forward (sym same);
    })) side.along.walks)
