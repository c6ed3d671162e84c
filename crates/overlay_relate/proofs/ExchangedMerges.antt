-- Edges with the counts of subject and clip exchanged merge into the merged edges with them exchanged, and so do edges
-- in another order.
use Rattle.std.proofs.Common.{◌≡◌, Bool, true, false, not, ◌&&◌, ◌||◌, pos, ◌+ℤ◌, List, [], ◌∷◌, map, refl, sym, ap}
use Rattle.std.proofs.Common.{ap₂, ◌∙◌, get_or, arith}
use Rattle.std.specs.List.{list_any}
use Rattle.std.specs.List.Sorted.{IsPermutation}
use Rattle.std.specs.Ordering.{int_eq}
use Rattle.std.proofs.lemmas.List.Elements.{All-map}
use Rattle.overlay_geom.specs.Plane.{Edge, edge_eq, total}
use Rattle.overlay_geom.specs.Edges.{CountedEdge, ends_of, subj_of, clip_of, goes_along, goes_against, counts_nothing}
use Rattle.overlay_geom.specs.Edges.{weight}
use Rattle.overlay_geom.specs.Merged.{edges_between, joined_edge, IsMerged}
use Rattle.overlay_geom.proofs.Mapped.{AllPairs-map, map-filter}
use Rattle.overlay_geom.proofs.Merging.{ComesBefore, all_joined, IsMerged-from_alike, IsMerged-alike}
use Rattle.overlay_geom.proofs.Shuffled.{alike_shuffled}
use Rattle.overlay_geom.proofs.Weights.{weight-cons}
use Rattle.overlay_relate.specs.PredicateLaws.{exchanged}

-- exchanged twice, edges are as they were
pub exchanged_twice : (es : List CountedEdge) → map exchanged (map exchanged es) ≡ es
exchanged_twice [] = refl
exchanged_twice (e ∷ es) = ap (λ fs. e ∷ fs) (exchanged_twice es)

-- ---- merging

-- the subject's counts of the exchanged edges add up to the clip's of the edges, and the other way round
subj_total : (es : List CountedEdge) → total subj_of (map exchanged es) ≡ total clip_of es
subj_total [] = refl
subj_total (e ∷ es) = ap (λ z. e.counts.clip +ℤ z) (subj_total es)

clip_total : (es : List CountedEdge) → total clip_of (map exchanged es) ≡ total subj_of es
clip_total [] = refl
clip_total (e ∷ es) = ap (λ z. e.counts.subj +ℤ z) (clip_total es)

-- and they have the marks of the edges
marks_stay : (mark : CountedEdge → Bool) → ((e : CountedEdge) → mark (exchanged e) ≡ mark e) → (es : List CountedEdge) →
    list_any mark (map exchanged es) ≡ list_any mark es
marks_stay mark same [] = refl
marks_stay mark same (e ∷ es) = ap₂ (λ a b. a || b) (same e) (marks_stay mark same es)

-- so the edge that they become between two ends is the exchanged one
joined_exchanged : (es : List CountedEdge) (e : Edge) →
    joined_edge (map exchanged es) e ≡ exchanged (joined_edge es e)
joined_exchanged es e =
    ap (all_joined e) (sym (map-filter exchanged (λ f. edge_eq (ends_of f) e) es)) ∙ all (edges_between es e)
  where
    all : (fs : List CountedEdge) → all_joined e (map exchanged fs) ≡ exchanged (all_joined e fs)
    all fs i = record {
      a = e.a;
      b = e.b;
      counts = record {
        subj = subj_total fs i;
        clip = clip_total fs i;
        along = marks_stay goes_along (λ f. refl) fs i;
        against = marks_stay goes_against (λ f. refl) fs i;
      };
    }

-- an edge counts nothing where the exchanged one does
nothing_exchanged : (e : CountedEdge) → counts_nothing (exchanged e) ≡ counts_nothing e
nothing_exchanged e = by (int_eq e.counts.clip (pos 0)) (int_eq e.counts.subj (pos 0))
  where
    by : (c s : Bool) → (c && s && not e.counts.along && not e.counts.against)
        ≡ (s && c && not e.counts.along && not e.counts.against)
    by true true = refl
    by true false = refl
    by false true = refl
    by false false = refl

-- exchanged edges merge into the exchanged merged ones
pub merged_exchanged : (old new : List CountedEdge) → IsMerged old new →
    IsMerged (map exchanged old) (map exchanged new)
merged_exchanged old new m =
    IsMerged-from_alike (map exchanged old) (map exchanged new) (AllPairs-map ComesBefore exchanged new m.ascending)
    (All-map (λ e. counts_nothing e ≡ false) exchanged new
    (λ k d l. nothing_exchanged (get_or new k d) ∙ (m.joined k d l).1))
    (record {
      at = λ e. joined_exchanged new e ∙ ap exchanged ((IsMerged-alike old new m).at e)
          ∙ sym (joined_exchanged old e);
    })

-- ---- another order, and weights

-- edges in another order merge into the same ones
pub merged_shuffled : (old other new : List CountedEdge) → IsPermutation old other → IsMerged old new →
    IsMerged other new
merged_shuffled old other new same m =
    IsMerged-from_alike other new m.ascending (λ k d l. (m.joined k d l).1)
    (record { at = λ e. (IsMerged-alike old new m).at e ∙ sym ((alike_shuffled old other same).at e) })

-- exchanged edges weigh what the edges weigh
pub weight_exchanged : (es : List CountedEdge) → weight (map exchanged es) ≡ weight es
weight_exchanged [] = refl
weight_exchanged (e ∷ es) =
    let there = weight-cons (exchanged e) (map exchanged es) in
    let here = weight-cons e es in
    let rest = weight_exchanged es in
    omega arith
