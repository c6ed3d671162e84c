-- Where a whole point lies by an edge: on it, or above it.
use Rattle.std.proofs.Common.{◌≡◌, ◌↔◌, true, false, ℤ, pos, sym, ap, ◌∙◌, arith}
use Rattle.std.specs.Ordering.{is_eq, int_cmp}
use Rattle.std.proofs.lemmas.Bool.{false_from_ne_true, both_ways}
use Rattle.std.proofs.lemmas.Int.{ints}
use Rattle.overlay_geom.specs.Plane.{Point, Edge, point_lt, cross_at, side, in_plane, IsOn}
use Rattle.overlay_geom.proofs.AlongEdge.{over, place_of, sideE, on_of_order, order_of_on}
use Rattle.overlay_geom.proofs.Cross.{crossE}
use Rattle.overlay_geom.proofs.Identities.{solve, number, ◌≗◌}
use Rattle.overlay_geom.proofs.PointOrder.{IsUpTo, Decides-point_lt, by_order, not_before_up_to}

-- a whole point's side is a cross product
pub side-whole : (e : Edge) (v : Point) → side e (in_plane v) ≡ cross_at e.a e.b v
side-whole e v = solve 6 (λ ax ay bx by x y. sideE ax ay bx by x y (number (pos 1)) ≗ crossE ax ay bx by x y) tt e.a.x
    e.a.y e.b.x e.b.y v.x v.y

-- where one point is not smaller, the other is up to it
pub up_to_where_not_less : (p q : Point) → point_lt q p ≡ false → IsUpTo p q
up_to_where_not_less p q none = by_order p q (λ up. up)
    (λ before. absurd (both_ways (point_lt q p) none ((Decides-point_lt q p).1 before)))

pub not_less_where_up_to : (p q : Point) → IsUpTo p q → point_lt q p ≡ false
not_less_where_up_to p q up = false_from_ne_true (point_lt q p)
    (λ less. not_before_up_to q p ((Decides-point_lt q p).0 less) up)

-- over 1 a whole point is itself
whole_up_to : (u v : Point) → IsUpTo u v ↔ IsUpTo (over u (pos 1)) (place_of (in_plane v))
whole_up_to u v = (
  λ up. let a = up.x in record {
    x = omega (arith, ints);
    y = λ le. let b = up.y (omega (arith, ints)) in
        omega (arith, ints);
  },
  λ up. let a = up.x in record {
    x = omega (arith, ints);
    y = λ le. let b = up.y (omega (arith, ints)) in
        omega (arith, ints);
  },
)

whole_from : (u v : Point) → IsUpTo u v ↔ IsUpTo (place_of (in_plane u)) (over v (pos 1))
whole_from u v = (
  λ up. let a = up.x in record {
    x = omega (arith, ints);
    y = λ le. let b = up.y (omega (arith, ints)) in
        omega (arith, ints);
  },
  λ up. let a = up.x in record {
    x = omega (arith, ints);
    y = λ le. let b = up.y (omega (arith, ints)) in
        omega (arith, ints);
  },
)

module _ (e : Edge) (v : Point) (forward : point_lt e.a e.b ≡ true) where
  -- a point of the edge's line between its ends is on it
  pub on_where_tested : cross_at e.a e.b v ≡ pos 0 → point_lt v e.a ≡ false → point_lt e.b v ≡ false →
      IsOn e (in_plane v)
  on_where_tested level from to = on_of_order e (in_plane v) ((Decides-point_lt e.a e.b).0 forward)
      (side-whole e v ∙ level)
      ((whole_up_to e.a v).0 (up_to_where_not_less e.a v from)) ((whole_from v e.b).0 (up_to_where_not_less v e.b to))

  -- and a point on it is so
  pub level_where_on : IsOn e (in_plane v) → cross_at e.a e.b v ≡ pos 0
  level_where_on on = sym (side-whole e v) ∙ on.on_line

  pub from_where_on : IsOn e (in_plane v) → point_lt v e.a ≡ false
  from_where_on on = not_less_where_up_to e.a v
      ((whole_up_to e.a v).1 (order_of_on e (in_plane v) ((Decides-point_lt e.a e.b).0 forward) on).0)

  pub to_where_on : IsOn e (in_plane v) → point_lt e.b v ≡ false
  to_where_on on = not_less_where_up_to v e.b
      ((whole_from v e.b).1 (order_of_on e (in_plane v) ((Decides-point_lt e.a e.b).0 forward) on).1)

-- a number compares as equal to 0 where it is 0
pub level_from_test : (z : ℤ) → is_eq (int_cmp z (pos 0)) ≡ true → z ≡ pos 0
level_from_test z test = grind (arith, ints)

pub test_from_level : (z : ℤ) → z ≡ pos 0 → is_eq (int_cmp z (pos 0)) ≡ true
test_from_level z level = ap (λ y. is_eq (int_cmp y (pos 0))) level
