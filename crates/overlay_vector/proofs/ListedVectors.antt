-- What a program lists by fill bits are the selected edges of a graph, with their filled sides and data.
use Rattle.std.proofs.Common.{◌≡◌, ℕ, ℤ, Bool, true, false, cond, not, List, [], ◌∷◌, ◌++◌, map, refl, sym, ap, ap₂}
use Rattle.std.proofs.Common.{◌∙◌}
use Rattle.std.specs.List.{filter, flat_map}
use Rattle.overlay_geom.specs.Counts.{Counts}
use Rattle.overlay_geom.specs.Edges.{CountedEdge, subj_of, clip_of}
use Rattle.overlay_geom.specs.Rules.{rule_holds, rules_hold, fills_of, fill_bits}
use Rattle.overlay_geom.specs.declared.fill_rule.FillRule.{FillRule}
use Rattle.overlay_geom.specs.declared.overlay_rule.OverlayRule.{OverlayRule}
use Rattle.overlay_plane.specs.Carried.{Carried, edges_in}
use Rattle.overlay_plane.specs.Regions.{holds_above, holds_below}
use Rattle.overlay_order.specs.Vectors.{Vector, plain_vector, vector_of}
use Rattle.overlay_order.specs.declared.data.CountWithData.{CountWithData}
use Rattle.overlay_order.specs.declared.vector.DataVectorEdge.{DataVectorEdge}
use Rattle.overlay_graph.specs.Graphs.{carried_vector, carried_vectors}
use Rattle.overlay_graph.proofs.SideBits.{bits_show_sides}
use Rattle.overlay_walk.specs.Selection.{bits_select, bits_hold_above, bits_hold_below}
use Rattle.overlay_vector.specs.DataVectors.{DataVector, data_vector, is_selected_edge}
use Rattle.overlay_vector.specs.ListedVectors.{uncounted, vectors_by_bits}

-- the fill bits of the first vector, and the others
abbrev first_fill : List Vector → ℕ
first_fill [] = 0
first_fill (v ∷ vs) = v.fill

abbrev others : List Vector → List Vector
others [] = []
others (v ∷ vs) = vs

module _ (fill : FillRule) (es : List CountedEdge) {I D : Type 0} (whole : I → ℤ)
    (counts : CountWithData D → Counts) where
  -- an edge of the graph as it is listed, once its fill bits are known
  listed_one : (v : DataVectorEdge I (CountWithData D)) →
      v.fill ≡ fill_bits fill es (carried_vector whole counts v).edge →
      uncounted whole v ≡ data_vector fill es (carried_vector whole counts v)
  listed_one v same = ap (λ n. let w : DataVector D = record {
    a = (uncounted whole v).a;
    b = (uncounted whole v).b;
    fill = n;
    data_of = (uncounted whole v).data_of;
  } in w) same

  every_one : (vs : List (DataVectorEdge I (CountWithData D))) →
      map (plain_vector whole) vs ≡ map (vector_of fill es) (edges_in (carried_vectors whole counts vs)) →
      map (uncounted whole) vs ≡ map (data_vector fill es) (carried_vectors whole counts vs)
  every_one [] filled = refl
  every_one (v ∷ vs) filled =
      ap₂ (λ w ws. w ∷ ws) (listed_one v (ap first_fill filled)) (every_one vs (ap others filled))

  -- all of them are listed, where they are seen as another list
  pub listed_all : (vs : List (DataVectorEdge I (CountWithData D))) (xs : List (Carried (CountWithData D))) →
      carried_vectors whole counts vs ≡ xs → map (plain_vector whole) vs ≡ map (vector_of fill es) (edges_in xs) →
      map (uncounted whole) vs ≡ map (data_vector fill es) xs
  listed_all vs xs seen filled =
      every_one vs (filled ∙ ap (λ ys. map (vector_of fill es) (edges_in ys)) (sym seen))
      ∙ ap (map (data_vector fill es)) seen

module _ (fill : FillRule) (rule : OverlayRule) (es : List CountedEdge) where
  -- the fill bits tell whether an edge is selected
  select_by_bits : (e : CountedEdge) → bits_select rule (fill_bits fill es e) ≡ is_selected_edge fill rule es e
  select_by_bits e =
      let shown = bits_show_sides (fills_of fill es e) in
      let above : bits_hold_above rule (fill_bits fill es e) ≡ holds_above (rules_hold fill rule) subj_of clip_of es e =
      ap₂ (rule_holds rule) shown.subj_above shown.clip_above in
      let below : bits_hold_below rule (fill_bits fill es e) ≡ holds_below (rules_hold fill rule) subj_of clip_of es e =
      ap₂ (rule_holds rule) shown.subj_below shown.clip_below in
      ap₂ (λ (a b : Bool). cond a (not b) b) above below

  module _ {I D : Type 0} (whole : I → ℤ) (counts : CountWithData D → Counts) where
    -- those of the edges that are selected
    abbrev chosen : List (Carried (CountWithData D)) → List (Carried (CountWithData D))
    chosen xs = filter (λ x. is_selected_edge fill rule es x.edge) xs

    listed_by : (vs : List (DataVectorEdge I (CountWithData D))) →
        map (plain_vector whole) vs ≡ map (vector_of fill es) (edges_in (carried_vectors whole counts vs)) →
        flat_map (vectors_by_bits whole rule) vs ≡ map (data_vector fill es) (chosen (carried_vectors whole counts vs))
    listed_by [] filled = refl
    listed_by (v ∷ vs) filled =
        let x = carried_vector whole counts v in
        let same : v.fill ≡ fill_bits fill es x.edge = ap first_fill filled in
        let rest = listed_by vs (ap others filled) in
        ap (λ t. cond t (uncounted whole v ∷ []) [] ++ flat_map (vectors_by_bits whole rule) vs)
        (ap (bits_select rule) same ∙ select_by_bits x.edge)
        ∙ by (is_selected_edge fill rule es x.edge) same rest
      where
        by : (t : Bool) → v.fill ≡ fill_bits fill es (carried_vector whole counts v).edge →
            flat_map (vectors_by_bits whole rule) vs
            ≡ map (data_vector fill es) (chosen (carried_vectors whole counts vs)) →
            cond t (uncounted whole v ∷ []) [] ++ flat_map (vectors_by_bits whole rule) vs
            ≡ map (data_vector fill es)
            (cond t (carried_vector whole counts v ∷ chosen (carried_vectors whole counts vs))
            (chosen (carried_vectors whole counts vs)))
        by true same rest = ap₂ (λ w ws. w ∷ ws) (listed_one fill es whole counts v same) rest
        by false same rest = rest

    -- so they are where the graph's edges are seen as another list
    pub listed_selected : (vs : List (DataVectorEdge I (CountWithData D))) (xs : List (Carried (CountWithData D))) →
        carried_vectors whole counts vs ≡ xs → map (plain_vector whole) vs ≡ map (vector_of fill es) (edges_in xs) →
        flat_map (vectors_by_bits whole rule) vs ≡ map (data_vector fill es) (chosen xs)
    listed_selected vs xs seen filled =
        listed_by vs (filled ∙ ap (λ ys. map (vector_of fill es) (edges_in ys)) (sym seen))
        ∙ ap (λ ys. map (data_vector fill es) (chosen ys)) seen
