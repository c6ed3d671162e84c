-- The fill bits of the edges of an arrangement tell whether the filled sides of some edge pass a test.
use Rattle.std.proofs.Common.{◌≡◌, ℕ, ℤ, Bool, true, List, map, sym, ap, ◌∙◌, subst}
use Rattle.std.specs.List.{list_any}
use Rattle.std.specs.Prelude.{◌↔◌, IsTrue}
use Rattle.std.proofs.lemmas.List.Folds.{Any-from_list_any, list_any-from_Any}
use Rattle.std.proofs.lemmas.Simd.{map-map}
use Rattle.overlay_geom.specs.Edges.{CountedEdge}
use Rattle.overlay_geom.specs.Rules.{is_filled, fills_of, fill_bits}
use Rattle.overlay_geom.specs.declared.fill_rule.FillRule.{FillRule}
use Rattle.overlay_plane.specs.EdgePredicates.{SomeEdge}
use Rattle.overlay_plane.proofs.Entries.{any_of_entry, Contains-from_any, Contains-map, Contains-from_map}
use Rattle.overlay_order.specs.Vectors.{Vector, plain_vector, vector_of}
use Rattle.overlay_order.specs.declared.vector.DataVectorEdge.{DataVectorEdge}
use Rattle.overlay_graph.proofs.SideBits.{bits_show_sides}
use Rattle.overlay_given.specs.Sides.{sides_pass}
use Rattle.overlay_given.specs.declared.sides.SideTest.{SideTest}
use Rattle.overlay_contacts.specs.EdgeSides.{sides_of_bits, sides_beside, bits_pass, edge_passes}

-- the bits of an edge are those of its sides
sides_by_bits : (rule : FillRule) (es : List CountedEdge) (e : CountedEdge) →
    sides_of_bits (fill_bits rule es e) ≡ sides_beside (is_filled rule) es e
sides_by_bits rule es e =
    let shown = bits_show_sides (fills_of rule es e) in
    λ i. record {
      subj_above = shown.subj_above i;
      subj_below = shown.subj_below i;
      clip_above = shown.clip_above i;
      clip_below = shown.clip_below i;
    }

edge_by_bits : (test : SideTest) (rule : FillRule) (es : List CountedEdge) (e : CountedEdge) →
    bits_pass test (fill_bits rule es e) ≡ edge_passes test (is_filled rule) es e
edge_by_bits test rule es e = ap (sides_pass test) (sides_by_bits rule es e)

-- so some edge passes where some bits do
some_by_bits : (test : SideTest) (rule : FillRule) (es : List CountedEdge) (fills : List ℕ) →
    fills ≡ map (fill_bits rule es) es →
    list_any (bits_pass test) fills ≡ true → SomeEdge (edge_passes test (is_filled rule) es) es
some_by_bits test rule es fills are t =
    let found = Contains-from_any (λ n. bits_pass test n ≡ true) (map (fill_bits rule es) es)
    (Any-from_list_any (bits_pass test) (map (fill_bits rule es) es)
    (subst (λ ns. list_any (bits_pass test) ns ≡ true) are t)) in
    let from = Contains-from_map (fill_bits rule es) es found.0 found.1 in
    (from.0, from.1, sym (edge_by_bits test rule es from.0) ∙ ap (bits_pass test) from.2 ∙ found.2)

bits_of_some : (test : SideTest) (rule : FillRule) (es : List CountedEdge) (fills : List ℕ) →
    fills ≡ map (fill_bits rule es) es →
    SomeEdge (edge_passes test (is_filled rule) es) es → list_any (bits_pass test) fills ≡ true
bits_of_some test rule es fills are (e, c, t) = subst (λ ns. list_any (bits_pass test) ns ≡ true) (sym are)
    (list_any-from_Any (bits_pass test) (map (fill_bits rule es) es)
    (any_of_entry (λ n. bits_pass test n ≡ true) (map (fill_bits rule es) es) (fill_bits rule es e)
    (Contains-map (fill_bits rule es) es e c)
    (edge_by_bits test rule es e ∙ t)))

-- and where those of some vector do
pub told_by_vectors : {I D : Type 0} (whole : I → ℤ) (test : SideTest) (rule : FillRule) (es : List CountedEdge)
    (vs : List (DataVectorEdge I D)) → map (plain_vector whole) vs ≡ map (vector_of rule es) es →
    (told : Bool) → told ≡ list_any (bits_pass test) (map (λ v. v.fill) vs) →
    IsTrue told ↔ SomeEdge (edge_passes test (is_filled rule) es) es
told_by_vectors whole test rule es vs filled told is =
    let fills = map (λ v. v.fill) vs in
    let are : fills ≡ map (fill_bits rule es) es =
    sym (map-map (λ (v : Vector). v.fill) (plain_vector whole) vs)
    ∙ ap (map (λ (v : Vector). v.fill)) filled
    ∙ map-map (λ (v : Vector). v.fill) (vector_of rule es) es in (
      λ t. some_by_bits test rule es fills are (sym is ∙ t),
      λ some. is ∙ bits_of_some test rule es fills are some,
    )
