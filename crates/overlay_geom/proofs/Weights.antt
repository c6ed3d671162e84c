-- Merging makes no list heavier.
use Rattle.std.proofs.Common.{◌≡◌, ℕ, ◌+◌, ◌≤◌, not, List, [], ◌∷◌, get_or, refl, ap, sym, ◌∙◌, arith}
use Rattle.std.specs.List.{All, list_any}
use Rattle.std.proofs.lemmas.Int.{ints}
use Rattle.std.proofs.lemmas.List.Elements.{All-head, All-tail}
use Rattle.std.proofs.lemmas.List.Filters.{sum_by-filter_both}
use Rattle.std.proofs.lemmas.List.Sums.{sum_by-cons}
use Rattle.overlay_geom.specs.Plane.{Edge, edge_eq}
use Rattle.overlay_geom.specs.Counts.{weight_of_counts}
use Rattle.overlay_geom.specs.Edges.{CountedEdge, ends_of, goes_along, goes_against, weight}
use Rattle.overlay_geom.specs.Merged.{edges_between, all_counts, joined_edge, IsMerged}
use Rattle.overlay_geom.proofs.Orders.{edge_eq-from_lt}
use Rattle.overlay_geom.proofs.Between.{without, between_without}
use Rattle.overlay_geom.proofs.Marks.{mark_weight-or}
use Rattle.overlay_geom.proofs.Merging.{ComesBefore, Ascends, all_joined, AllPairs-head, AllPairs-tail}

-- the weight of one edge
abbrev pub edge_weight : CountedEdge → ℕ
edge_weight e = weight_of_counts e.counts

-- the weight of a list is that of its first edge plus that of the rest
pub weight-cons : (e : CountedEdge) (es : List CountedEdge) → weight (e ∷ es) ≡ edge_weight e + weight es
weight-cons e es = sum_by-cons edge_weight e es

-- the edge that edges become weighs no more than they do
pub weight_of_totals : (es : List CountedEdge) → weight_of_counts (all_counts es) ≤ weight es
weight_of_totals [] = omega arith
weight_of_totals (e ∷ es) =
    let rest = weight_of_totals es in
    let all = weight-cons e es in
    let along = mark_weight-or e.counts.along (list_any goes_along es) in
    let against = mark_weight-or e.counts.against (list_any goes_against es) in
    omega (arith, ints)

-- a joined edge weighs no more than the edges that it is made of
pub weight_of_joined_edge : (es : List CountedEdge) (e : Edge) → edge_weight (joined_edge es e) ≤ weight
    (edges_between es e)
weight_of_joined_edge es e = weight_of_totals (edges_between es e)

-- the weight of a list is that of the edges between two ends plus that of the others
pub weight-parts : (es : List CountedEdge) (e : Edge) → weight (edges_between es e) + weight (without es e) ≡ weight es
weight-parts es e = sum_by-filter_both (λ f. edge_eq (ends_of f) e) (λ f. not (edge_eq (ends_of f) e))
    (λ f. refl) edge_weight es

-- ascending joined edges of a list weigh no more than the list
pub weight_of_joined : (new old : List CountedEdge) → Ascends new → All (λ e. e ≡ joined_edge old (ends_of e)) new →
    weight new ≤ weight old
weight_of_joined [] old up joined = omega arith
weight_of_joined (x ∷ xs) old up joined =
    let later : All (ComesBefore x) xs = AllPairs-head ComesBefore x xs up in
    let others : List CountedEdge = without old (ends_of x) in
    let first : x ≡ joined_edge old (ends_of x) = All-head (λ e. e ≡ joined_edge old (ends_of e)) x xs joined in
    let rest : weight xs ≤ weight others =
    weight_of_joined xs others (AllPairs-tail ComesBefore x xs up)
    (λ k d l. All-tail (λ e. e ≡ joined_edge old (ends_of e)) x xs joined k d l
    ∙ still (get_or xs k d) (later k d l)) in
    let light : edge_weight (joined_edge old (ends_of x)) ≤ weight (edges_between old (ends_of x)) =
    weight_of_joined_edge old (ends_of x) in
    let heavy : edge_weight x ≡ edge_weight (joined_edge old (ends_of x)) = ap edge_weight first in
    let parts = weight-parts old (ends_of x) in
    let all = weight-cons x xs in
    omega arith
  where
    still : (e : CountedEdge) → ComesBefore x e → joined_edge old (ends_of e) ≡ joined_edge (without old (ends_of x))
        (ends_of e)
    still e before =
        ap (all_joined (ends_of e)) (sym
        (between_without old (ends_of x) (ends_of e) (edge_eq-from_lt (ends_of x) (ends_of e) before)))

-- a merged list weighs no more than the list that it was merged from
pub weight_of_merged : (old new : List CountedEdge) → IsMerged old new → weight new ≤ weight old
weight_of_merged old new m = weight_of_joined new old m.ascending (λ k d l. (m.joined k d l).0)
