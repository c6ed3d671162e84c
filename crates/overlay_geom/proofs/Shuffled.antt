-- A list of edges in another order has equal joined edges and equal weight.
use Rattle.std.proofs.Common.{◌≡◌, Bool, cond, ℤ, pos, List, sym, ◌∙◌}
use Rattle.std.specs.List.{filter}
use Rattle.std.specs.List.Sorted.{IsPermutation}
use Rattle.std.proofs.lemmas.List.Sorted.{sum_by-IsPermutation}
use Rattle.overlay_geom.specs.Plane.{Edge, edge_eq, total}
use Rattle.overlay_geom.specs.Edges.{CountedEdge, ends_of, subj_of, clip_of, goes_along, goes_against, weight}
use Rattle.overlay_geom.specs.Merged.{edges_between, joined_edge}
use Rattle.overlay_geom.proofs.Marks.{list_any-filter_shuffled, marked_between}
use Rattle.overlay_geom.proofs.Merging.{JoinAlike}
use Rattle.overlay_geom.proofs.Totals.{total-filter, total-IsPermutation}
use Rattle.overlay_geom.proofs.Weights.{edge_weight}

-- the items that pass a test have equal sums in another order
pub total-filter_shuffled : {X : Type 0} (f : X → ℤ) (p : X → Bool) (xs ys : List X) → IsPermutation xs ys →
    total f (filter p ys) ≡ total f (filter p xs)
total-filter_shuffled f p xs ys h = total-filter p f ys ∙ total-IsPermutation (λ x. cond (p x) (f x) (pos 0)) xs ys h
    ∙ sym (total-filter p f xs)

-- a permutation of edges has equal joined edges
pub alike_shuffled : (xs ys : List CountedEdge) → IsPermutation xs ys → JoinAlike xs ys
alike_shuffled xs ys h = record { at = at }
  where
    same : (count : CountedEdge → ℤ) (e : Edge) → total count (edges_between ys e) ≡ total count (edges_between xs e)
    same count e = total-filter_shuffled count (λ f. edge_eq (ends_of f) e) xs ys h

    marked : (mark : CountedEdge → Bool) (e : Edge) → marked_between mark ys e ≡ marked_between mark xs e
    marked mark e = list_any-filter_shuffled mark (λ f. edge_eq (ends_of f) e) xs ys h

    at : (e : Edge) → joined_edge ys e ≡ joined_edge xs e
    at e i = record {
      a = e.a;
      b = e.b;
      counts = record {
        subj = same subj_of e i;
        clip = same clip_of e i;
        along = marked goes_along e i;
        against = marked goes_against e i;
      };
    }

-- a permutation of edges has equal weight
pub weight_shuffled : (xs ys : List CountedEdge) → IsPermutation xs ys → weight ys ≡ weight xs
weight_shuffled xs ys h = sum_by-IsPermutation edge_weight xs ys h
