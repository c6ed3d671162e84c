-- Meeting points sorted by their parts are in order along the edge.
use Rattle.std.proofs.Common.{◌≡◌, inl, inr, ℕ, ◌<◌, ◌≤◌, Bool, true, false, ℤ, pos, ◌*ℤ◌, ◌<ℤ◌, ◌≤ℤ◌, List, map}
use Rattle.std.proofs.Common.{refl, sym}
use Rattle.std.proofs.Common.{arith}
use Rattle.std.proofs.lemmas.Bool.{false≢true}
use Rattle.std.proofs.lemmas.Int.{by_lt_z}
use Rattle.std.proofs.lemmas.List.Sorted.{sorted_far}
use Rattle.std.specs.Cmp.{IsStrictWeakOrder, ranks, int_ranks}
use Rattle.std.specs.List.Sorted.{IsSortedBy}
use Rattle.std.specs.Ordering.{MatchOrdering, int_cmp, nat_cmp, is_lt, ordering_then}
use Rattle.std.specs.declared.cmp.Ordering.{Ordering}
use Rattle.std.specs.declared.cmp.Ordering.TheVariants.{Less, Equal, Greater}
use Rattle.overlay_geom.specs.Plane.{Edge}
use Rattle.overlay_geom.proofs.Mapped.{AllPairs-map}
use Rattle.overlay_geom.proofs.PointOrder.{IsBefore}
use Rattle.overlay_geom.proofs.Signs.{linear}
use Rattle.overlay_plane.proofs.SmallerPoints.{fraction_le}
use Rattle.overlay_exact.specs.Along.{Met, met_cmp, IsUpToAlong, AreInOrderAlong}
use Rattle.overlay_exact.proofs.PartOrder.{compare_alike}

-- a is at most b, and where they are equal k is at most l
record IsAtMost (a b : ℤ) (k l : ℕ) : Type 0 where
  first : a ≤ℤ b
  then : b ≤ℤ a → k ≤ l

-- pairs that are not less the other way round
not_less : (o q : Ordering) (a b : ℤ) (k l : ℕ) → MatchOrdering o (b <ℤ a) (b ≡ a) (a <ℤ b) →
    MatchOrdering q (l < k) (l ≡ k) (k < l) → is_lt (ordering_then o q) ≡ false → IsAtMost a b k l
not_less Less q a b k l r s h = absurd (false≢true (sym h))
not_less Equal Less a b k l r s h = absurd (false≢true (sym h))
not_less Equal Equal a b k l r s h =
    let same : b ≡ a = r in
    let tied : l ≡ k = s in
    record { first = omega linear; then = λ le. omega arith }
not_less Equal Greater a b k l r s h =
    let same : b ≡ a = r in
    let less : k < l = s in
    record { first = omega linear; then = λ le. omega arith }
not_less Greater q a b k l r s h =
    let less : a <ℤ b = r in
    record { first = omega linear; then = λ le. absurd (omega linear) }

-- and the other way about
less_not : (o q : Ordering) (a b : ℤ) (k l : ℕ) → MatchOrdering o (b <ℤ a) (b ≡ a) (a <ℤ b) →
    MatchOrdering q (l < k) (l ≡ k) (k < l) → IsAtMost a b k l → is_lt (ordering_then o q) ≡ false
less_not Less q a b k l r s h = let less : b <ℤ a = r in let le = h.first in absurd (omega linear)
less_not Equal Less a b k l r s h =
    let same : b ≡ a = r in
    let less : l < k = s in
    let le = h.then (omega linear) in
    absurd (omega arith)
less_not Equal Equal a b k l r s h = refl
less_not Equal Greater a b k l r s h = refl
less_not Greater q a b k l r s h = refl

-- a pair that is less is at most the other
is_less : (o q : Ordering) (a b : ℤ) (k l : ℕ) → MatchOrdering o (a <ℤ b) (a ≡ b) (b <ℤ a) →
    MatchOrdering q (k < l) (k ≡ l) (l < k) → is_lt (ordering_then o q) ≡ true → IsAtMost a b k l
is_less Less q a b k l r s h =
    let less : a <ℤ b = r in
    record { first = omega linear; then = λ le. absurd (omega linear) }
is_less Equal Less a b k l r s h =
    let same : a ≡ b = r in
    let less : k < l = s in
    record { first = omega linear; then = λ le. omega arith }
is_less Equal Equal a b k l r s h = absurd (false≢true h)
is_less Equal Greater a b k l r s h = absurd (false≢true h)
is_less Greater q a b k l r s h = absurd (false≢true h)

-- m comes up to n by parts and numbers
abbrev IsUpTo : Met → Met → Type 0
IsUpTo m n = IsAtMost (m.part.n *ℤ n.part.d) (n.part.n *ℤ m.part.d) m.other n.other

-- the comparison tells it
up_to_from_test : (m n : Met) → is_lt (met_cmp n m) ≡ false → IsUpTo m n
up_to_from_test m n h = not_less (int_cmp (n.part.n *ℤ m.part.d) (m.part.n *ℤ n.part.d)) (nat_cmp n.other m.other)
    (m.part.n *ℤ n.part.d) (n.part.n *ℤ m.part.d) m.other n.other
    (int_ranks (n.part.n *ℤ m.part.d) (m.part.n *ℤ n.part.d)) (ranks n.other m.other) h

test_from_up_to : (m n : Met) → IsUpTo m n → is_lt (met_cmp n m) ≡ false
test_from_up_to m n h = less_not (int_cmp (n.part.n *ℤ m.part.d) (m.part.n *ℤ n.part.d)) (nat_cmp n.other m.other)
    (m.part.n *ℤ n.part.d) (n.part.n *ℤ m.part.d) m.other n.other
    (int_ranks (n.part.n *ℤ m.part.d) (m.part.n *ℤ n.part.d)) (ranks n.other m.other) h

up_to_from_less : (m n : Met) → is_lt (met_cmp m n) ≡ true → IsUpTo m n
up_to_from_less m n h = is_less (int_cmp (m.part.n *ℤ n.part.d) (n.part.n *ℤ m.part.d)) (nat_cmp m.other n.other)
    (m.part.n *ℤ n.part.d) (n.part.n *ℤ m.part.d) m.other n.other
    (int_ranks (m.part.n *ℤ n.part.d) (n.part.n *ℤ m.part.d)) (ranks m.other n.other) h

-- `up to` is transitive where denominators are positive
through : (k m n : Met) → pos 0 <ℤ k.part.d → pos 0 <ℤ m.part.d → pos 0 <ℤ n.part.d → IsUpTo k m → IsUpTo m n →
    IsUpTo k n
through k m n k_pos m_pos n_pos first second = record {
  first = fraction_le k.part.n k.part.d m.part.n m.part.d n.part.n n.part.d k_pos m_pos n_pos first.first second.first;
  then = λ back.
      let low = first.then (fraction_le m.part.n m.part.d n.part.n n.part.d k.part.n k.part.d m_pos n_pos k_pos
      second.first back) in
      let high = second.then (fraction_le n.part.n n.part.d k.part.n k.part.d m.part.n m.part.d n_pos k_pos m_pos
      back first.first) in
      omega arith;
}

-- a point up to another comes up to it along the edge
up_to_along : (e : Edge) → IsBefore e.a e.b → (m n : Met) → pos 0 <ℤ m.part.d → pos 0 <ℤ n.part.d → IsUpTo m n →
    IsUpToAlong e m n
up_to_along e before m n m_pos n_pos up p q at_p at_q =
    let alike = compare_alike e before m.part n.part p q m_pos n_pos at_p at_q in
    by_lt_z (m.part.n *ℤ n.part.d) (n.part.n *ℤ m.part.d) (λ less. inl (alike.0.0 less))
    (λ ge. inr (alike.1.0 (let le = up.first in omega linear), up.then ge))

module _ {X : Type 0} (met : X → Met) (positive : (x : X) → pos 0 <ℤ (met x).part.d) where
  -- the order of the program's meeting points
  abbrev pub comes_first : X → X → Bool
  comes_first x y = is_lt (met_cmp (met x) (met y))

  -- any two of them compare
  pub comes_first-order : IsStrictWeakOrder comes_first
  comes_first-order = record {
    one_way = λ x y h. test_from_up_to (met x) (met y) (up_to_from_less (met x) (met y) h);
    chain = λ x y z first second. test_from_up_to (met z) (met x)
        (through (met z) (met y) (met x) (positive z) (positive y) (positive x)
        (up_to_from_test (met z) (met y) second) (up_to_from_test (met y) (met x) first));
  }

  -- sorted so, they are in order along the edge
  pub in_order_along : (e : Edge) → IsBefore e.a e.b → (xs : List X) → IsSortedBy comes_first xs →
      AreInOrderAlong e (map met xs)
  in_order_along e before xs sorted =
      AllPairs-map (IsUpToAlong e) met xs
      (λ i j d less within. up_to_along e before (met _) (met _) (positive _) (positive _)
      (up_to_from_test (met _) (met _) (sorted_far comes_first comes_first-order xs sorted i j d (omega arith) within)))
