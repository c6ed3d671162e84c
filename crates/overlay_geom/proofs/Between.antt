-- The edges of a list that have given ends, and the list without them.
use Rattle.std.proofs.Common.{◌≡◌, ◌≤◌, Bool, true, false, cond, not, List, [], ◌∷◌, length, refl, ap, sym, ◌∙◌, arith}
use Rattle.std.proofs.Common.{◌⊎◌, inl, inr}
use Rattle.std.specs.List.{All, Contains, filter}
use Rattle.std.proofs.lemmas.Bool.{cases_Bool, not-true}
use Rattle.std.proofs.lemmas.List.Elements.{All-head, All-tail, All-weaker, filter_passes}
use Rattle.std.proofs.lemmas.List.Sums.{length-filter, count_by-le-length}
use Rattle.overlay_geom.specs.Plane.{Edge, edge_eq}
use Rattle.overlay_geom.specs.Edges.{CountedEdge, ends_of}
use Rattle.overlay_geom.specs.Merged.{edges_between}
use Rattle.overlay_geom.proofs.Entries.{Contains-head, Contains-later}
use Rattle.overlay_geom.proofs.Orders.{edge_eq-same, edge_eq-itself}

-- the edges of the list that have other ends
abbrev pub without : List CountedEdge → Edge → List CountedEdge
without es e = filter (λ f. not (edge_eq (ends_of f) e)) es

-- none are between ends that no edge of the list has
pub edges_between-none : (es : List CountedEdge) (e : Edge) → All (λ f. edge_eq (ends_of f) e ≡ false) es →
    edges_between es e ≡ []
edges_between-none [] e h = refl
edges_between-none (f ∷ es) e h =
    ap (λ b. cond b (f ∷ edges_between es e) (edges_between es e))
    (All-head (λ f. edge_eq (ends_of f) e ≡ false) f es h)
    ∙ edges_between-none es e (All-tail (λ f. edge_eq (ends_of f) e ≡ false) f es h)

-- an edge with these ends comes first among them
pub edges_between-here : (f : CountedEdge) (es : List CountedEdge) (e : Edge) → edge_eq (ends_of f) e ≡ true →
    edges_between (f ∷ es) e ≡ f ∷ edges_between es e
edges_between-here f es e h = ap (λ b. cond b (f ∷ edges_between es e) (edges_between es e)) h

-- an edge with other ends is passed over
pub edges_between-past : (f : CountedEdge) (es : List CountedEdge) (e : Edge) → edge_eq (ends_of f) e ≡ false →
    edges_between (f ∷ es) e ≡ edges_between es e
edges_between-past f es e h = ap (λ b. cond b (f ∷ edges_between es e) (edges_between es e)) h

-- an edge with these ends is left out
pub without-here : (f : CountedEdge) (es : List CountedEdge) (e : Edge) → edge_eq (ends_of f) e ≡ true →
    without (f ∷ es) e ≡ without es e
without-here f es e h = ap (λ b. cond (not b) (f ∷ without es e) (without es e)) h

-- an edge with other ends stays
pub without-past : (f : CountedEdge) (es : List CountedEdge) (e : Edge) → edge_eq (ends_of f) e ≡ false →
    without (f ∷ es) e ≡ f ∷ without es e
without-past f es e h = ap (λ b. cond (not b) (f ∷ without es e) (without es e)) h

-- there are none, or the list contains one
pub find_between : (es : List CountedEdge) (e : Edge) →
    (edges_between es e ≡ []) ⊎ ((f : CountedEdge) × Contains es f × (ends_of f ≡ e))
find_between [] e = inl refl
find_between (f ∷ es) e =
    elim (cases_Bool (edge_eq (ends_of f) e)) [
      | inl same ↦ inr (f, Contains-head f es, edge_eq-same (ends_of f) e same)
      | inr other ↦ elim (find_between es e) [
        | inl none ↦ inl (edges_between-past f es e other ∙ none)
        | inr found ↦ inr (found.0, Contains-later f es found.0 found.1, found.2)
      ]
    ]

-- without the edges between two ends, none are between them
pub between_without_itself : (es : List CountedEdge) (e : Edge) → edges_between (without es e) e ≡ []
between_without_itself es e =
    let passes : CountedEdge → Bool = λ f. not (edge_eq (ends_of f) e) in
    edges_between-none (without es e) e (All-weaker (λ f. passes f ≡ true) (λ f. edge_eq (ends_of f) e ≡ false)
    (λ f h. not-true _ h) (without es e) (filter_passes passes es))

-- edges between other ends stay
pub between_without : (es : List CountedEdge) (e f : Edge) → edge_eq e f ≡ false →
    edges_between (without es e) f ≡ edges_between es f
between_without [] e f ne = refl
between_without (x ∷ es) e f ne =
    let stay : edges_between (without es e) f ≡ edges_between es f = between_without es e f ne in
    elim (cases_Bool (edge_eq (ends_of x) e)) [
      | inl same ↦
          let other : edge_eq (ends_of x) f ≡ false = ap (λ g. edge_eq g f) (edge_eq-same (ends_of x) e same) ∙ ne in
          ap (λ fs. edges_between fs f) (without-here x es e same) ∙ stay ∙ sym (edges_between-past x es f other)
      | inr other ↦
          ap (λ fs. edges_between fs f) (without-past x es e other)
          ∙ ap (λ fs. cond (edge_eq (ends_of x) f) (x ∷ fs) fs) stay
    ]

-- to leave out the first edge's like makes the list shorter
pub length-without_first : (f : CountedEdge) (es : List CountedEdge) → length (without (f ∷ es) (ends_of f)) ≤ length es
length-without_first f es =
    let passes : CountedEdge → Bool = λ g. not (edge_eq (ends_of g) (ends_of f)) in
    let kept : length (without (f ∷ es) (ends_of f)) ≡ length (without es (ends_of f)) = ap length
    (without-here f es (ends_of f) (edge_eq-itself (ends_of f))) in
    let counted = length-filter passes es in
    let short = count_by-le-length passes es in
    omega arith

-- to leave edges out makes no list longer
pub length-without : (es : List CountedEdge) (e : Edge) → length (without es e) ≤ length es
length-without es e =
    let passes : CountedEdge → Bool = λ g. not (edge_eq (ends_of g) e) in
    let counted = length-filter passes es in
    let short = count_by-le-length passes es in
    omega arith
