-- Points with their places, in the order of the sweep: told of each in that order, it is told of the points in their
-- own.
use Rattle.std.proofs.Common.{◌≡◌, ℕ, ◌+◌, ◌<◌, ◌≤◌, ℤ, ◌≤ℤ◌, int_lt, Bool, List, length, take, drop, get_or, sym, ◌∙◌}
use Rattle.std.proofs.Common.{subst, arith}
use Rattle.std.specs.Cmp.{IsStrictWeakOrder}
use Rattle.std.specs.List.{All, AllPairs}
use Rattle.std.specs.List.Sorted.{IsPermutation, IsSortedBy}
use Rattle.std.proofs.lemmas.Int.{ints}
use Rattle.std.proofs.lemmas.List.{length-drop, get_or-drop, get_or_default}
use Rattle.std.proofs.lemmas.List.Elements.{All-contains, All-map, All-weaker}
use Rattle.std.proofs.lemmas.List.Sorted.{sorted_far}
use Rattle.overlay_geom.specs.Numbered.{Numbered, numbered, AreNumbered}
use Rattle.overlay_geom.specs.Plane.{Point}
use Rattle.overlay_geom.proofs.Mapped.{AllPairs-map}
use Rattle.overlay_geom.proofs.Numbered.{numbered_shuffled, all_told}
use Rattle.overlay_plane.proofs.Tests.{ge_from_test, test_from_ge, lt_from_test}
use Rattle.overlay_relate.specs.Answers.{AnswersEach}
use Rattle.overlay_relate.specs.Queries.{plain_query, plain_queries, points_asked, AreQueries, IsAnswered}
use Rattle.overlay_relate.specs.Runs.{AreByX}
use Rattle.overlay_relate.specs.declared.queries.PointQuery.{PointQuery}
use Rattle.overlay_relate.proofs.Answered.{answers_weaker}

-- sorted, they are the queries
pub queries_sorted : (points : List Point) (qs rs : List (Numbered Point)) → qs ≡ numbered 0 points →
    IsPermutation qs rs
    → AllPairs (λ q r. q.item.x ≤ℤ r.item.x) rs → AreQueries points rs
queries_sorted points qs rs is moved order = record {
  numbered = numbered_shuffled points rs (subst (λ ns. IsPermutation ns rs) is moved);
  order = order;
}

-- the abscissas are an order
module _ {I : Type 0} (whole : I → ℤ) where
  abbrev pub is_left : PointQuery I → PointQuery I → Bool
  is_left q r = int_lt (whole q.point.x) (whole r.point.x)

  pub is_left-order : IsStrictWeakOrder is_left
  is_left-order = record {
    one_way = λ q r t. let less = lt_from_test (whole q.point.x) (whole r.point.x) t in
        test_from_ge (whole r.point.x) (whole q.point.x) (omega (arith, ints));
    chain = λ q r s t u. let a = ge_from_test (whole q.point.x) (whole r.point.x) t in
        let b = ge_from_test (whole r.point.x) (whole s.point.x) u in
        test_from_ge (whole q.point.x) (whole s.point.x) (omega (arith, ints));
  }

  pub by_x-from_sorted : (qs : List (PointQuery I)) → IsSortedBy is_left qs → AllPairs (λ q r. q.item.x ≤ℤ r.item.x)
      (plain_queries whole qs)
  by_x-from_sorted qs up = AllPairs-map (λ (q r : Numbered Point). q.item.x ≤ℤ r.item.x) (plain_query whole) qs
      (λ j k d l m. ge_from_test (whole (get_or qs k d).point.x) (whole (get_or qs j d).point.x)
      (sorted_far is_left is_left-order qs up j k d (omega (arith, l)) m))

-- the queries after one lie no further left
pub later_queries : (qs : List (Numbered Point)) → AllPairs (λ q r. q.item.x ≤ℤ r.item.x) qs →
    (i : ℕ) (q : Numbered Point) → i < length qs → get_or qs i q ≡ q →
    All (λ r. q.item.x ≤ℤ r.item.x) (drop (i + 1) qs)
later_queries qs order i q lt is k d h =
    let count = length-drop (i + 1) qs in
    subst (λ (r : Numbered Point). q.item.x ≤ℤ r.item.x) (sym (get_or-drop (i + 1) qs k d))
    (subst (λ (t : Numbered Point). t.item.x ≤ℤ (get_or qs (i + 1 + k) d).item.x) (get_or_default qs i d q lt ∙ is)
    (order i (i + 1 + k) d (omega arith) (omega arith)))

-- a query's place is one of the points
pub stands_within : (points : List Point) (qs : List (Numbered Point)) → AreNumbered points qs →
    (i : ℕ) (q : Numbered Point) → i < length qs → get_or qs i q ≡ q → q.place < length points
stands_within points qs are i q lt is =
    (All-contains (λ t. (t.place < length points) × (get_or points t.place t.item ≡ t.item)) qs q are.from
    (i, lt, is)).0

-- where all queries are answered, so are the points in their order
pub all_answered : {Y : Type 0} (P : Point → Y → Type 0) (d : Y) (points : List Point) (qs : List (Numbered Point)) →
    AreNumbered points qs →
    (answers : List Y) → length answers ≡ length points → (i : ℕ) → length qs ≤ i →
    All (λ r. P r.item (get_or answers r.place d)) (take i qs) →
    AnswersEach P points answers
all_answered P d points qs asked answers counted i past told = record {
  counted = counted;
  each = λ n e f lt. all_told P d points qs asked answers counted i past told n e f lt;
}

-- what is asked for are the points by their abscissas
pub asked_by_x : (points : List Point) (qs : List (Numbered Point)) → AreQueries points qs → AreByX (points_asked qs)
asked_by_x points qs are = AllPairs-map (λ (p q : Point). p.x ≤ℤ q.x) (λ (n : Numbered Point). n.item) qs are.order

pub All-asked : (P : Point → Type 0) (points : List Point) (qs : List (Numbered Point)) → AreQueries points qs →
    All P points → All P (points_asked qs)
All-asked P points qs are all = All-map P (λ (n : Numbered Point). n.item) qs
    (All-weaker (λ t. (t.place < length points) × (get_or points t.place t.item ≡ t.item)) (λ n. P n.item)
    (λ n at. subst P at.1 (all n.place n.item at.0)) qs are.numbered.from)

-- answers to what is asked for are answers to the points
pub answers_ordered : {Y : Type 0} (R : Point → Y → Type 0) (points asked : List Point) (ys zs : List Y) →
    AnswersEach R asked ys → AnswersEach (IsAnswered asked ys) points zs → AnswersEach R points zs
answers_ordered R points asked ys zs right placed = answers_weaker (IsAnswered asked ys) R
    (λ x y at. subst (R x) at.answer (subst (λ z. R z (get_or ys at.place y)) at.item
    (right.each at.place x y at.within))) points zs placed
