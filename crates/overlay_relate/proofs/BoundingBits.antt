-- The fill bits of the edges of a graph tell which of them bound its shape, and these are in range.
use Rattle.std.proofs.Common.{◌≡◌, ℕ, ℤ, Bool, true, false, cond, List, [], ◌∷◌, ◌++◌, map, refl, ap₂, ◌∙◌}
use Rattle.std.proofs.Common.{subst}
use Rattle.std.specs.List.{All, Contains, filter, flat_map}
use Rattle.std.proofs.lemmas.List.Elements.{All-contains}
use Rattle.overlay_geom.specs.Edges.{CountedEdge, ends_of, all_ends}
use Rattle.overlay_geom.specs.Plane.{Edge}
use Rattle.overlay_geom.specs.Resolved.{IsLongEdge}
use Rattle.overlay_geom.specs.Rules.{is_filled, fills_of, fill_bits}
use Rattle.overlay_geom.specs.declared.fill_rule.FillRule.{FillRule}
use Rattle.overlay_plane.specs.Balance.{HasBalancedCounts}
use Rattle.overlay_plane.proofs.Entries.{all_of_entries, Contains-from_filter, Contains-from_map}
use Rattle.overlay_order.specs.Content.{IsContent, IsHeld}
use Rattle.overlay_order.specs.Counts.{has_bit}
use Rattle.overlay_order.specs.Vectors.{vector_of}
use Rattle.overlay_graph.specs.Graphs.{IsArrangement}
use Rattle.overlay_graph.proofs.SideBits.{bits_show_sides}
use Rattle.overlay_relate.specs.Boundaries.{bounding}
use Rattle.overlay_relate.specs.Bounded.{is_bounding, boundary_of, Bounds}
use Rattle.overlay_relate.specs.Locations.{differ}
use Rattle.overlay_relate.proofs.ToldByEdges.{fillable_content}

module _ (rule : FillRule) (es : List CountedEdge) where
  bounds_by_bits : (e : CountedEdge) → differ (has_bit (fill_bits rule es e) 0) (has_bit (fill_bits rule es e) 1) ≡
      is_bounding (is_filled rule) es e
  bounds_by_bits e = let shown = bits_show_sides (fills_of rule es e) in ap₂ differ shown.subj_above shown.subj_below

  with_ends : (t : Bool) (e : CountedEdge) (fs : List CountedEdge) →
      cond t (ends_of e ∷ []) [] ++ all_ends fs ≡ all_ends (cond t (e ∷ fs) fs)
  with_ends true e fs = refl
  with_ends false e fs = refl

  bounding_are : (fs : List CountedEdge) → flat_map bounding (map (vector_of rule es) fs) ≡ all_ends
      (filter (is_bounding (is_filled rule) es) fs)
  bounding_are [] = refl
  bounding_are (e ∷ fs) =
      ap₂ (λ t gs. cond t (ends_of e ∷ []) [] ++ gs) (bounds_by_bits e) (bounding_are fs)
      ∙ with_ends (is_bounding (is_filled rule) es e) e (filter (is_bounding (is_filled rule) es) fs)

  -- edges found by their bits bound the shape
  pub bounds_by_edges : (limit : ℕ) → IsArrangement limit es → HasBalancedCounts es → (boundary : List Edge) →
      boundary ≡ flat_map bounding (map (vector_of rule es) es) → Bounds (is_filled rule) es boundary
  bounds_by_edges limit arranged balanced boundary is = record {
    fillable = fillable_content limit rule es arranged.content arranged.ascending arranged.settled balanced;
    are = is ∙ bounding_are es;
  }

-- the edges that bound a shape are in range, as all edges are
pub long_edges : (limit : ℕ) (filled : ℤ → Bool) (es : List CountedEdge) → IsContent limit es →
    All (IsLongEdge limit) (boundary_of filled es)
long_edges limit filled es content = all_of_entries (IsLongEdge limit) (boundary_of filled es) long
  where
    long : (f : Edge) → Contains (boundary_of filled es) f → IsLongEdge limit f
    long f at =
        let found = Contains-from_map ends_of (filter (is_bounding filled es) es) f at in
        let held = All-contains (IsHeld limit) es found.0 content.held
        (Contains-from_filter (is_bounding filled es) es found.0 found.1).0 in
        subst (IsLongEdge limit) found.2
        (record { forward = held.forward; a_in_range = held.a_in_range; b_in_range = held.b_in_range })
