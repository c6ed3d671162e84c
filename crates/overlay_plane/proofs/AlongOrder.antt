-- The order of whole points along an edge: by x, and then by y upwards or downwards, as the edge leads.
use Rattle.std.proofs.Common.{◌≡◌, Bool, true, false, cond, ◌&&◌, ◌||◌, ℤ, neg_ℤ, ◌<ℤ◌, ◌≤ℤ◌, int_lt, int_le, refl, ap}
use Rattle.std.specs.Ordering.{int_eq}
use Rattle.std.specs.Bool.{Decides}
use Rattle.std.proofs.lemmas.Bool.Decides.{Decides-at, not_from_Decides}
use Rattle.overlay_geom.specs.Plane.{Point, Edge, point_lt}
use Rattle.overlay_geom.proofs.Orders.{same_point}
use Rattle.overlay_geom.proofs.PointOrder.{IsBefore, IsUpTo, Decides-point_lt, by_order, before_up_to, up_to_itself}
use Rattle.overlay_geom.proofs.PointOrder.{up_to_through, up_to_both}
use Rattle.overlay_geom.proofs.Signs.{linear}
use Rattle.overlay_plane.specs.CutPoints.{comes_first}
use Rattle.overlay_plane.proofs.InOrderLists.{IsWeakOrder}
use Rattle.overlay_plane.proofs.Tests.{lt_from_test, le_from_test, gt_from_test, test_from_lt, same_tests}

-- y counted the way the edge leads
abbrev pub height_along : Edge → ℤ → ℤ
height_along e y = cond (int_le e.a.y e.b.y) y (neg_ℤ y)

-- the point with y so counted
abbrev pub along : Edge → Point → Point
along e v = record { x = v.x; y = height_along e v.y }

-- v comes up to w along e
abbrev pub IsUpToAlong : Edge → Point → Point → Type 0
IsUpToAlong e v w = IsUpTo (along e v) (along e w)

-- the order along the edge is that of the points with y so counted
comes_first-along : (e : Edge) (v w : Point) → comes_first e v w ≡ point_lt (along e v) (along e w)
comes_first-along e v w = ap (λ t. int_lt v.x w.x || (int_eq v.x w.x && t)) (by (int_le e.a.y e.b.y))
  where
    turned : (y z : ℤ) → int_lt z y ≡ int_lt (neg_ℤ y) (neg_ℤ z)
    turned y z = same_tests (int_lt z y) (int_lt (neg_ℤ y) (neg_ℤ z))
        (λ t. let lt = lt_from_test z y t in test_from_lt (neg_ℤ y) (neg_ℤ z) (omega linear))
        (λ t. let lt = lt_from_test (neg_ℤ y) (neg_ℤ z) t in test_from_lt z y (omega linear))

    by : (t : Bool) → cond t (int_lt v.y w.y) (int_lt w.y v.y) ≡ int_lt (cond t v.y (neg_ℤ v.y))
        (cond t w.y (neg_ℤ w.y))
    by true = refl
    by false = turned v.y w.y

-- the test tells the order
Decides-comes_first : (e : Edge) (v w : Point) → Decides (comes_first e v w) (IsBefore (along e v) (along e w))
Decides-comes_first e v w = Decides-at (comes_first e v w) _ (comes_first-along e v w)
    (Decides-point_lt (along e v) (along e w))

-- a point that comes first comes up to the other
first_up_to : (e : Edge) (v w : Point) → comes_first e v w ≡ true → IsUpToAlong e v w
first_up_to e v w h = before_up_to (along e v) (along e w) ((Decides-comes_first e v w).0 h)

-- if it does not, the other comes up to it
not_first_up_to : (e : Edge) (v w : Point) → comes_first e v w ≡ false → IsUpToAlong e w v
not_first_up_to e v w h = by_order (along e w) (along e v) (λ up. up)
    (λ before. absurd (not_from_Decides (comes_first e v w) (Decides-comes_first e v w) h before))

-- each point comes up to itself
pub along-reflexive : (e : Edge) (v : Point) → IsUpToAlong e v v
along-reflexive e v = up_to_itself (along e v)

-- `up to` along the edge is transitive
along-transitive : (e : Edge) (u v w : Point) → IsUpToAlong e u v → IsUpToAlong e v w → IsUpToAlong e u w
along-transitive e u v w = up_to_through (along e u) (along e v) (along e w)

-- points are in weak order along the edge
pub along-order : (e : Edge) → IsWeakOrder (comes_first e) (IsUpToAlong e)
along-order e = record { transitive = along-transitive e; passed = first_up_to e; failed = not_first_up_to e }

-- two points that come up to each other are equal
pub along-antisymmetric : (e : Edge) (v w : Point) → IsUpToAlong e v w → IsUpToAlong e w v → v ≡ w
along-antisymmetric e v w first second =
    let one = up_to_both (along e v) (along e w) first second in
    same_point v w (ap (λ p. p.x) one) (level (ap (λ p. p.y) one))
  where
    level : height_along e v.y ≡ height_along e w.y → v.y ≡ w.y
    level = by (int_le e.a.y e.b.y)
      where
        by : (t : Bool) → cond t v.y (neg_ℤ v.y) ≡ cond t w.y (neg_ℤ w.y) → v.y ≡ w.y
        by true same = same
        by false same = omega linear

-- heights in order where e rises, and in reverse order where it falls, are in order along e
pub height_along-le : (e : Edge) (y z : ℤ) → (e.a.y ≤ℤ e.b.y → y ≤ℤ z) → (e.b.y <ℤ e.a.y → z ≤ℤ y) →
    height_along e y ≤ℤ height_along e z
height_along-le e y z rising falling = by (int_le e.a.y e.b.y) refl
  where
    by : (t : Bool) → int_le e.a.y e.b.y ≡ t → cond t y (neg_ℤ y) ≤ℤ cond t z (neg_ℤ z)
    by true rises = rising (le_from_test e.a.y e.b.y rises)
    by false falls = let le = falling (gt_from_test e.a.y e.b.y falls) in omega linear

-- the start of a forward edge comes up to its end
pub start_up_to_end : (e : Edge) → IsBefore e.a e.b → IsUpToAlong e e.a e.b
start_up_to_end e before = record {
  x = before.x;
  y = λ le. height_along-le e e.a.y e.b.y (λ rises. rises) (λ falls. omega linear);
}
