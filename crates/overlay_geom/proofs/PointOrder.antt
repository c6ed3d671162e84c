-- The order of whole points by their coordinates.
use Rattle.std.proofs.Common.{◌≡◌, ◌⊎◌, inl, inr, Bool, true, false, ◌<ℤ◌, ◌≤ℤ◌, refl}
use Rattle.std.specs.Bool.{Decides}
use Rattle.std.proofs.lemmas.Int.{by_lt_z}
use Rattle.std.proofs.lemmas.Bool.{both_ways}
use Rattle.std.proofs.lemmas.Bool.Decides.{Decides-int_eq, Decides-and, Decides-or, Decides-like}
use Rattle.overlay_geom.specs.Plane.{Point, point_lt}
use Rattle.overlay_geom.proofs.Comparisons.{Decides-int_lt}
use Rattle.overlay_geom.proofs.Signs.{linear}
use Rattle.overlay_geom.proofs.Orders.{same_point, point_lt-order}

-- p is smaller than q
pub record IsBefore (p q : Point) : Type 0 where
  pub x : p.x ≤ℤ q.x
  pub y : q.x ≤ℤ p.x → p.y <ℤ q.y

-- p is q or smaller
pub record IsUpTo (p q : Point) : Type 0 where
  pub x : p.x ≤ℤ q.x
  pub y : q.x ≤ℤ p.x → p.y ≤ℤ q.y

-- the test tells whether p is smaller than q
pub Decides-point_lt : (p q : Point) → Decides (point_lt p q) (IsBefore p q)
Decides-point_lt p q =
    Decides-like (point_lt p q) forth back
    (Decides-or _ _ (Decides-int_lt p.x q.x) (Decides-and _ _ (Decides-int_eq p.x q.x) (Decides-int_lt p.y q.y)))
  where
    forth : (p.x <ℤ q.x) ⊎ ((p.x ≡ q.x) × (p.y <ℤ q.y)) → IsBefore p q
    forth (inl lt) = record { x = omega linear; y = λ le. omega linear }
    forth (inr (same, lt)) = record { x = omega linear; y = λ le. lt }

    back : IsBefore p q → (p.x <ℤ q.x) ⊎ ((p.x ≡ q.x) × (p.y <ℤ q.y))
    back h = by_lt_z p.x q.x (λ lt. inl lt) (λ ge. inr (let x = h.x in omega linear, h.y ge))

-- of two points one is the other or smaller
pub by_order : {P : Type 0} (p q : Point) → (IsUpTo p q → P) → (IsBefore q p → P) → P
by_order {P = P} p q f g = by_lt_z q.x p.x (λ lt. g (record { x = omega linear; y = λ le. omega linear })) same_or_less
  where
    same_or_less : p.x ≤ℤ q.x → P
    same_or_less le =
        by_lt_z q.y p.y
        (λ lt. by_lt_z p.x q.x (λ less. f (record { x = le; y = λ ge. omega linear }))
        (λ ge. g (record { x = ge; y = λ same. lt })))
        (λ up. f (record { x = le; y = λ ge. up }))

-- a smaller point is one up to the other
pub before_up_to : (p q : Point) → IsBefore p q → IsUpTo p q
before_up_to p q h = record { x = h.x; y = λ le. let lt = h.y le in omega linear }

-- a point is up to itself
pub up_to_itself : (p : Point) → IsUpTo p p
up_to_itself p = record { x = omega linear; y = λ le. omega linear }

-- `up to` followed by `smaller` is `smaller`
pub before_after_up_to : (p q r : Point) → IsUpTo p q → IsBefore q r → IsBefore p r
before_after_up_to p q r h k = record {
  x = let a = h.x in let b = k.x in
      omega linear;
  y = λ le. both le (let b = k.x in omega linear) (let a = h.x in omega linear);
}
  where
    both : r.x ≤ℤ p.x → q.x ≤ℤ p.x → r.x ≤ℤ q.x → p.y <ℤ r.y
    both le here there = let a = h.y here in let b = k.y there in omega linear

-- three points, each up to the next round, are equal
pub same_round : (p q r : Point) → IsUpTo p q → IsUpTo q r → IsUpTo r p →
    (p.x ≡ q.x) × (p.y ≡ q.y) × (p.x ≡ r.x) × (p.y ≡ r.y)
same_round p q r pq qr rp =
    let in_x : (p.x ≡ q.x) × (p.x ≡ r.x) = (omega linear, omega linear) in
    let pq_y = pq.y (omega linear) in
    let qr_y = qr.y (omega linear) in
    let rp_y = rp.y (omega linear) in
    (in_x.0, omega linear, in_x.1, omega linear)

-- a point is not smaller than itself
pub before_is_other : (p q : Point) → IsBefore p q → q.x ≡ p.x → q.y ≡ p.y → ⊥
before_is_other p q h same_x same_y = let lt = h.y (omega linear) in omega linear

-- `up to` is transitive
pub up_to_through : (p q r : Point) → IsUpTo p q → IsUpTo q r → IsUpTo p r
up_to_through p q r h k = record {
  x = let a = h.x in let b = k.x in omega linear;
  y = λ le. both le (let b = k.x in omega linear)
      (let a = h.x in omega linear);
}
  where
    both : r.x ≤ℤ p.x → q.x ≤ℤ p.x → r.x ≤ℤ q.x → p.y ≤ℤ r.y
    both le here there = let a = h.y here in let b = k.y there in omega linear

-- two points, each up to the other, are equal
pub up_to_both : (p q : Point) → IsUpTo p q → IsUpTo q p → p ≡ q
up_to_both p q h k =
    let there = h.x in
    let back = k.x in
    let up = h.y back in
    let down = k.y there in
    same_point p q (omega linear) (omega linear)

-- a point up to another point is equal to it, or smaller
pub before_unless_same : (p q : Point) → IsUpTo p q → ¬ (p ≡ q) → IsBefore p q
before_unless_same p q up other = by_order q p (λ down. absurd (other (up_to_both p q up down))) (λ before. before)

-- no point is smaller than one that is up to it
pub not_before_up_to : (p q : Point) → IsBefore p q → ¬ (IsUpTo q p)
not_before_up_to p q before up =
    let there = before.x in
    let back = up.x in
    let less = before.y back in
    let more = up.y there in
    omega linear

-- ---- by the test

-- smaller than a smaller point is smaller
pub point_lt-transitive : (p q r : Point) → point_lt p q ≡ true → point_lt q r ≡ true → point_lt p r ≡ true
point_lt-transitive p q r pq qr = (Decides-point_lt p r).1
    (before_after_up_to p q r (before_up_to p q ((Decides-point_lt p q).0 pq)) ((Decides-point_lt q r).0 qr))

-- a point not after a smaller point is smaller
pub point_lt-after_up_to : (p q r : Point) → point_lt q p ≡ false → point_lt q r ≡ true → point_lt p r ≡ true
point_lt-after_up_to p q r up less = by (point_lt p r) refl
  where
    by : (t : Bool) → point_lt p r ≡ t → point_lt p r ≡ true
    by true e = e
    by false e = absurd (both_ways (point_lt q r) (point_lt-order.chain q p r up e) less)

-- a point smaller than another is smaller than all points that are not before that
pub point_lt-before_up_to : (p q r : Point) → point_lt p q ≡ true → point_lt r q ≡ false → point_lt p r ≡ true
point_lt-before_up_to p q r less up = by (point_lt p r) refl
  where
    by : (t : Bool) → point_lt p r ≡ t → point_lt p r ≡ true
    by true e = e
    by false e = absurd (both_ways (point_lt p q) (point_lt-order.chain p r q e up) less)
