-- The fill bits of the edges of a list pass a test where the edges do.
use Rattle.std.proofs.Common.{◌≡◌, ℕ, ℤ, Bool, true, false, cond, not, ◌&&◌, ◌||◌, List, map, refl, sym, ap, ap₂, ◌∙◌}
use Rattle.std.proofs.Common.{subst}
use Rattle.std.specs.List.{list_any}
use Rattle.std.specs.Prelude.{◌↔◌, IsTrue}
use Rattle.std.proofs.lemmas.Bool.{false≢true}
use Rattle.std.proofs.lemmas.List.Folds.{Any-from_list_any, list_any-from_Any}
use Rattle.std.proofs.lemmas.Simd.{map-map}
use Rattle.overlay_geom.specs.Edges.{CountedEdge, subj_of, clip_of}
use Rattle.overlay_geom.specs.Rules.{is_filled, bits_of, fills_of, fill_bits}
use Rattle.overlay_geom.specs.declared.fill_rule.FillRule.{FillRule}
use Rattle.overlay_plane.specs.EdgePredicates.{SomeEdge, is_border_of}
use Rattle.overlay_plane.proofs.Entries.{any_of_entry, Contains-from_any, Contains-map, Contains-from_map}
use Rattle.overlay_order.specs.Vectors.{Vector, plain_vector, vector_of}
use Rattle.overlay_order.specs.declared.vector.DataVectorEdge.{DataVectorEdge}
use Rattle.overlay_graph.proofs.SideBits.{bits_show_sides}
use Rattle.overlay_relate.specs.EdgeTests.{bits_pass, edge_passes, is_subject_border, is_clip_border}
use Rattle.overlay_relate.specs.declared.edge_test.EdgeTest.{EdgeTest}
use Rattle.overlay_relate.specs.declared.edge_test.EdgeTest.TheVariants.{BothShapes, CommonSide, SubjectSide}
use Rattle.overlay_relate.specs.declared.edge_test.EdgeTest.TheVariants.{SubjectOutside, ClipSide, ClipOutside}

-- the bits of an edge pass where the edge does
edge_by_bits : (test : EdgeTest) (rule : FillRule) (es : List CountedEdge) (e : CountedEdge) →
    bits_pass test (fill_bits rule es e) ≡ edge_passes test (is_filled rule) es e
edge_by_bits BothShapes rule es e = let shown = bits_show_sides (fills_of rule es e) in
    ap₂ (λ s c. s && c) (ap₂ (λ a b. a || b) shown.subj_above shown.subj_below)
    (ap₂ (λ a b. a || b) shown.clip_above shown.clip_below)
edge_by_bits CommonSide rule es e = let shown = bits_show_sides (fills_of rule es e) in
    ap₂ (λ a b. a || b) (ap₂ (λ s c. s && c) shown.subj_above shown.clip_above)
    (ap₂ (λ s c. s && c) shown.subj_below shown.clip_below)
edge_by_bits SubjectSide rule es e = let shown = bits_show_sides (fills_of rule es e) in
    ap₂ (λ a b. a || b) shown.subj_above shown.subj_below
edge_by_bits SubjectOutside rule es e = let shown = bits_show_sides (fills_of rule es e) in
    ap₂ (λ a b. a || b) (ap₂ (λ s c. s && not c) shown.subj_above shown.clip_above)
    (ap₂ (λ s c. s && not c) shown.subj_below shown.clip_below)
edge_by_bits ClipSide rule es e = let shown = bits_show_sides (fills_of rule es e) in
    ap₂ (λ a b. a || b) shown.clip_above shown.clip_below
edge_by_bits ClipOutside rule es e = let shown = bits_show_sides (fills_of rule es e) in
    ap₂ (λ a b. a || b) (ap₂ (λ c s. c && not s) shown.clip_above shown.subj_above)
    (ap₂ (λ c s. c && not s) shown.clip_below shown.subj_below)

-- so some edge passes where some bits do
pub some_by_bits : (test : EdgeTest) (rule : FillRule) (es : List CountedEdge) (fills : List ℕ) →
    fills ≡ map (fill_bits rule es) es →
    list_any (bits_pass test) fills ≡ true → SomeEdge (edge_passes test (is_filled rule) es) es
some_by_bits test rule es fills are t =
    let found = Contains-from_any (λ n. bits_pass test n ≡ true) (map (fill_bits rule es) es)
    (Any-from_list_any (bits_pass test) (map (fill_bits rule es) es)
    (subst (λ ns. list_any (bits_pass test) ns ≡ true) are t)) in
    let from = Contains-from_map (fill_bits rule es) es found.0 found.1 in
    (from.0, from.1, sym (edge_by_bits test rule es from.0) ∙ ap (bits_pass test) from.2 ∙ found.2)

pub bits_of_some : (test : EdgeTest) (rule : FillRule) (es : List CountedEdge) (fills : List ℕ) →
    fills ≡ map (fill_bits rule es) es →
    SomeEdge (edge_passes test (is_filled rule) es) es → list_any (bits_pass test) fills ≡ true
bits_of_some test rule es fills are (e, c, t) = subst (λ ns. list_any (bits_pass test) ns ≡ true) (sym are)
    (list_any-from_Any (bits_pass test) (map (fill_bits rule es) es)
    (any_of_entry (λ n. bits_pass test n ≡ true) (map (fill_bits rule es) es) (fill_bits rule es e)
    (Contains-map (fill_bits rule es) es e c)
    (edge_by_bits test rule es e ∙ t)))

-- ---- vectors

-- so the fill bits of the vectors of a list tell whether some edge of it passes
pub told_by_vectors : {I D : Type 0} (whole : I → ℤ) (test : EdgeTest) (rule : FillRule) (es : List CountedEdge)
    (vs : List (DataVectorEdge I D)) → map (plain_vector whole) vs ≡ map (vector_of rule es) es →
    (told : Bool) → told ≡ list_any (bits_pass test) (map (λ v. v.fill) vs) →
    IsTrue told ↔ SomeEdge (edge_passes test (is_filled rule) es) es
told_by_vectors whole test rule es vs filled told is =
    let fills = map (λ v. v.fill) vs in
    let are : fills ≡ map (fill_bits rule es) es =
    sym (map-map (λ (v : Vector). v.fill) (plain_vector whole) vs)
    ∙ ap (map (λ (v : Vector). v.fill)) filled
    ∙ map-map (λ (v : Vector). v.fill) (vector_of rule es) es in (
      λ t. some_by_bits test rule es fills are (sym is ∙ t),
      λ some. is ∙ bits_of_some test rule es fills are some,
    )

-- ---- borders

-- one side, and not the other, and neither of the other shape
abbrev alone : Bool → Bool → Bool → Bool → Bool
alone a b c d = cond a (not b) b && not (c || d)

-- bits of one side alone are those of one number
subject_sides : (a b c d : Bool) →
    is_subject_border (bits_of (record { subj_above = a; subj_below = b; clip_above = c; clip_below = d })) ≡ alone a b
    c d
subject_sides true true true true = refl
subject_sides true true true false = refl
subject_sides true true false true = refl
subject_sides true true false false = refl
subject_sides true false true true = refl
subject_sides true false true false = refl
subject_sides true false false true = refl
subject_sides true false false false = refl
subject_sides false true true true = refl
subject_sides false true true false = refl
subject_sides false true false true = refl
subject_sides false true false false = refl
subject_sides false false true true = refl
subject_sides false false true false = refl
subject_sides false false false true = refl
subject_sides false false false false = refl

clip_sides : (a b c d : Bool) →
    is_clip_border (bits_of (record { subj_above = a; subj_below = b; clip_above = c; clip_below = d })) ≡ alone c d a b
clip_sides true true true true = refl
clip_sides true true true false = refl
clip_sides true true false true = refl
clip_sides true true false false = refl
clip_sides true false true true = refl
clip_sides true false true false = refl
clip_sides true false false true = refl
clip_sides true false false false = refl
clip_sides false true true true = refl
clip_sides false true true false = refl
clip_sides false true false true = refl
clip_sides false true false false = refl
clip_sides false false true true = refl
clip_sides false false true false = refl
clip_sides false false false true = refl
clip_sides false false false false = refl

-- so they tell the borders of the two shapes
pub subject_border : (rule : FillRule) (es : List CountedEdge) (e : CountedEdge) →
    is_subject_border (fill_bits rule es e) ≡ is_border_of (is_filled rule) es subj_of clip_of e
subject_border rule es e = let f = fills_of rule es e in
    subject_sides f.subj_above f.subj_below f.clip_above f.clip_below

pub clip_border : (rule : FillRule) (es : List CountedEdge) (e : CountedEdge) →
    is_clip_border (fill_bits rule es e) ≡ is_border_of (is_filled rule) es clip_of subj_of e
clip_border rule es e = let f = fills_of rule es e in clip_sides f.subj_above f.subj_below f.clip_above f.clip_below

-- no sides are those of both borders
alone_apart : (a b c d : Bool) → alone a b c d ≡ true → alone c d a b ≡ false
alone_apart true true c d t = absurd (false≢true t)
alone_apart false false c d t = absurd (false≢true t)
alone_apart true false true d t = absurd (false≢true t)
alone_apart true false false true t = absurd (false≢true t)
alone_apart true false false false t = refl
alone_apart false true true d t = absurd (false≢true t)
alone_apart false true false true t = absurd (false≢true t)
alone_apart false true false false t = refl

-- so no edge is a border of both
pub not_both : (rule : FillRule) (es : List CountedEdge) (e : CountedEdge) →
    is_subject_border (fill_bits rule es e) ≡ true → is_clip_border (fill_bits rule es e) ≡ false
not_both rule es e t =
    let f = fills_of rule es e in
    clip_border rule es e ∙ alone_apart f.subj_above f.subj_below f.clip_above f.clip_below
    (sym (subject_border rule es e) ∙ t)
