-- The ends of edges with their counts cancel out where the edges' counts are balanced.
use Rattle.std.proofs.Common.{◌≡◌, ◌*◌, ◌^◌, ◌<◌, ◌≤◌, Bool, false, ℤ, pos, neg_ℤ, ◌+ℤ◌, ◌-ℤ◌, ◌*ℤ◌, List}
use Rattle.std.proofs.Common.{[], ◌∷◌, ◌++◌, map, sym, ◌∙◌, arith}
use Rattle.std.specs.Prelude.{sum_by}
use Rattle.std.specs.Cmp.{IsStrictWeakOrder}
use Rattle.std.specs.List.Sorted.{IsPermutation, IsSortedBy}
use Rattle.std.proofs.lemmas.List.Sorted.{sorted_far, sum_by-IsPermutation, IsPermutation-refl, IsPermutation-sym}
use Rattle.std.proofs.lemmas.List.Sorted.{IsPermutation-trans, IsPermutation-cons, IsPermutation-middle}
use Rattle.std.proofs.lemmas.List.Sums.{sum_by-append}
use Rattle.overlay_geom.specs.Edges.{CountedEdge, weight}
use Rattle.overlay_geom.specs.Plane.{Point, point_lt, total}
use Rattle.overlay_geom.specs.Points.{plain_point}
use Rattle.overlay_geom.proofs.Identities.{solve, number, ◌⊕◌, ◌⊖◌, ◌⊗◌, ⊝◌, ◌≗◌}
use Rattle.overlay_geom.proofs.Mapped.{AllPairs-map}
use Rattle.overlay_geom.proofs.Orders.{point_lt-order}
use Rattle.overlay_geom.proofs.Totals.{total-IsPermutation}
use Rattle.overlay_geom.proofs.Weights.{weight-cons}
use Rattle.overlay_plane.specs.Balance.{HasBalancedCounts}
use Rattle.overlay_plane.proofs.JoinedLists.{total-flat_map}
use Rattle.overlay_plane.proofs.PieceCounts.{weight_reversed}
use Rattle.overlay_plane.proofs.Totals.{total-same}
use Rattle.overlay_graph.specs.Ends.{CountedEnd, plain_end, plain_ends, counted_ends, all_counted_ends, end_weight}
use Rattle.overlay_graph.specs.Ends.{counted_start, counted_stop, starts_and_stops, AreSummable, CancelOut}
use Rattle.overlay_graph.specs.declared.counted_end.CountedEnd.{CountedEnd as HeldEnd}
use Rattle.overlay_graph.proofs.EndSums.{AreByPoint}

-- the counts of an edge's ends, each times a number of its point, sum to the edge's count times the rise of the number
risen : (c u v : ℤ) → neg_ℤ c *ℤ u +ℤ (c *ℤ v +ℤ pos 0) ≡ c *ℤ (v -ℤ u)
risen c u v = solve 3 (λ c u v. ⊝ c ⊗ u ⊕ (c ⊗ v ⊕ number (pos 0)) ≗ c ⊗ (v ⊖ u)) tt c u v

module _ (es : List CountedEdge) (g : Point → ℤ) where
  subj_sums : total (λ (n : CountedEnd). n.subj *ℤ g n.point) (all_counted_ends es) ≡ total
      (λ (e : CountedEdge). e.counts.subj *ℤ (g e.b -ℤ g e.a)) es
  subj_sums = total-flat_map (λ (n : CountedEnd). n.subj *ℤ g n.point) counted_ends es
      ∙ total-same (λ e. total (λ (n : CountedEnd). n.subj *ℤ g n.point) (counted_ends e))
      (λ e. e.counts.subj *ℤ (g e.b -ℤ g e.a)) es (λ e c. risen e.counts.subj (g e.a) (g e.b))

  clip_sums : total (λ (n : CountedEnd). n.clip *ℤ g n.point) (all_counted_ends es) ≡ total
      (λ (e : CountedEdge). e.counts.clip *ℤ (g e.b -ℤ g e.a)) es
  clip_sums = total-flat_map (λ (n : CountedEnd). n.clip *ℤ g n.point) counted_ends es
      ∙ total-same (λ e. total (λ (n : CountedEnd). n.clip *ℤ g n.point) (counted_ends e))
      (λ e. e.counts.clip *ℤ (g e.b -ℤ g e.a)) es (λ e c. risen e.counts.clip (g e.a) (g e.b))

-- the ends weigh at most twice as much as the edges
ends_light : (es : List CountedEdge) → sum_by end_weight (all_counted_ends es) ≤ 2 * weight es
ends_light [] = omega arith
ends_light (e ∷ es) =
    let rest = ends_light es in
    let both = sum_by-append end_weight (counted_ends e) (all_counted_ends es) in
    let all = weight-cons e es in
    let s = weight_reversed e.counts.subj in
    let c = weight_reversed e.counts.clip in
    omega arith

-- first the smaller ends and then the larger are the ends of the edges
apart : (es : List CountedEdge) → IsPermutation (all_counted_ends es) (starts_and_stops es)
apart [] = IsPermutation-refl []
apart (e ∷ es) =
    let starts = map counted_start es in
    let stops = map counted_stop es in
    IsPermutation-cons (counted_start e) (counted_stop e ∷ all_counted_ends es) (starts ++ counted_stop e ∷ stops)
    (IsPermutation-trans (counted_stop e ∷ all_counted_ends es) (counted_stop e ∷ starts ++ stops)
    (starts ++ counted_stop e ∷ stops)
    (IsPermutation-cons (counted_stop e) (all_counted_ends es) (starts ++ stops) (apart es))
    (IsPermutation-sym (starts ++ counted_stop e ∷ stops) (counted_stop e ∷ starts ++ stops)
    (IsPermutation-middle starts (counted_stop e) stops)))

module _ (es : List CountedEdge) (ns : List CountedEnd) (sorted : IsPermutation (starts_and_stops es) ns) where
  moved : IsPermutation (all_counted_ends es) ns
  moved = IsPermutation-trans (all_counted_ends es) (starts_and_stops es) ns (apart es) sorted

  -- in any order of the ends
  pub balanced_where_cancelled : CancelOut ns → HasBalancedCounts es
  balanced_where_cancelled cancel = record {
    subj = λ g. sym (subj_sums es g)
        ∙ sym (total-IsPermutation (λ n. n.subj *ℤ g n.point) (all_counted_ends es) ns moved) ∙ cancel.subj g;
    clip = λ g. sym (clip_sums es g)
        ∙ sym (total-IsPermutation (λ n. n.clip *ℤ g n.point) (all_counted_ends es) ns moved) ∙ cancel.clip g;
  }

  pub cancelled_where_balanced : HasBalancedCounts es → CancelOut ns
  cancelled_where_balanced balanced = record {
    subj = λ g. total-IsPermutation (λ n. n.subj *ℤ g n.point) (all_counted_ends es) ns moved ∙ subj_sums es g
        ∙ balanced.subj g;
    clip = λ g. total-IsPermutation (λ n. n.clip *ℤ g n.point) (all_counted_ends es) ns moved ∙ clip_sums es g
        ∙ balanced.clip g;
  }

  -- they may be summed up where they stand by their points
  pub summable : weight es < 2 ^ 31 → AreByPoint ns → AreSummable ns
  summable light order = record {
    order = order;
    light = let at_most = ends_light es in let same = sum_by-IsPermutation end_weight (all_counted_ends es) ns moved in
        omega arith;
  }

module _ {I : Type 0} (whole : I → ℤ) where
  -- ends by their points
  abbrev pub held_before : HeldEnd I → HeldEnd I → Bool
  held_before m n = point_lt (plain_point whole m.point) (plain_point whole n.point)

  pub held_before-order : IsStrictWeakOrder held_before
  held_before-order = record {
    one_way = λ m n. point_lt-order.one_way (plain_point whole m.point) (plain_point whole n.point);
    chain = λ m n o. point_lt-order.chain (plain_point whole m.point) (plain_point whole n.point)
        (plain_point whole o.point);
  }

  pub by_point-from_sorted : (ns : List (HeldEnd I)) → IsSortedBy held_before ns → AreByPoint (plain_ends whole ns)
  by_point-from_sorted ns up = AllPairs-map (λ (m n : CountedEnd). point_lt n.point m.point ≡ false)
      (plain_end whole) ns
      (λ j k d l m. sorted_far held_before held_before-order ns up j k d (omega (arith, l)) m)
