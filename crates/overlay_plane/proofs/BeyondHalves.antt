-- Points beyond a half plane with all edges: either no edge is strictly below a point, or each that covers its
-- x-coordinate is. So balanced counts sum to 0 there.
use Rattle.std.proofs.Common.{◌≡◌, Bool, true, false, cond, not, ◌&&◌, ℤ, pos, ◌+ℤ◌, ◌-ℤ◌, ◌*ℤ◌, ◌<ℤ◌, ◌≤ℤ◌, int_lt}
use Rattle.std.proofs.Common.{int_le}
use Rattle.std.proofs.Common.{List, Contains, refl, sym, ap, subst, ◌∙◌}
use Rattle.std.proofs.lemmas.Bool.{both_ways}
use Rattle.std.proofs.lemmas.List.Elements.{All-contains}
use Rattle.overlay_geom.specs.Plane.{Point, PlanePoint, Edge, point_lt, side, is_strictly_below}
use Rattle.overlay_geom.specs.Edges.{CountedEdge, ends_of, winding_by}
use Rattle.overlay_geom.proofs.Identities.{solve, number, ◌⊕◌, ◌⊗◌, ◌⊖◌, ◌≗◌}
use Rattle.overlay_geom.proofs.Signs.{linear, mul-pos, mul-neg, mul-nonneg, mul-nonpos, pos_of_mul-pos}
use Rattle.overlay_geom.proofs.Signs.{neg_of_mul-neg}
use Rattle.overlay_plane.specs.EdgeLists.{IsBalanced, IsForwardBy}
use Rattle.overlay_plane.specs.HalfPlanes.{IsEdgeInHalf, NothingWindsBeyond}
use Rattle.overlay_plane.specs.HalfPlanes.HalfPlane.{left_of, right_of, below, above}
use Rattle.overlay_plane.specs.Heights.{covers}
use Rattle.overlay_plane.proofs.RoundedHalves.{le_times}
use Rattle.overlay_plane.proofs.Strip.{starts_first}
use Rattle.overlay_plane.proofs.Tests.{lt_from_test, test_from_lt, test_from_ge, test_from_gt, int_le-not}
use Rattle.overlay_plane.proofs.Totals.{total-same, total-zero}
use Rattle.overlay_plane.proofs.Under.{covers_from, covers_to}

-- ---- three tests

first_fails : (r s t : Bool) → r ≡ false → (r && s && t) ≡ false
first_fails r s t e = subst (λ q. (q && s && t) ≡ false) (sym e) refl

second_fails : (r s t : Bool) → s ≡ false → (r && s && t) ≡ false
second_fails r s t e = subst (λ q. (r && q && t) ≡ false) (sym e) (by r)
  where
    by : (r : Bool) → (r && false && t) ≡ false
    by true = refl
    by false = refl

third_fails : (r s t : Bool) → ((r && s) ≡ true → t ≡ false) → (r && s && t) ≡ false
third_fails true true t h = h refl
third_fails true false t h = refl
third_fails false s t h = refl

third_passes : (r s t : Bool) → ((r && s) ≡ true → t ≡ true) → (r && s && t) ≡ (r && s)
third_passes true true t h = h refl
third_passes true false t h = refl
third_passes false s t h = refl

-- ---- the side of a point beyond the ends of an edge

module _ (e : Edge) (p : PlanePoint) (over : covers e p.x p.d ≡ true) where
  -- the side is made of how far the point lies above the two ends
  side_by_ends : p.d *ℤ side e p ≡ (e.b.x *ℤ p.d -ℤ p.x) *ℤ (p.y -ℤ e.a.y *ℤ p.d)
      +ℤ (p.x -ℤ e.a.x *ℤ p.d) *ℤ (p.y -ℤ e.b.y *ℤ p.d)
  side_by_ends = solve 7 (λ ax ay bx by x y d.
      d ⊗ ((bx ⊖ ax) ⊗ (y ⊖ ay ⊗ d) ⊖ (by ⊖ ay) ⊗ (x ⊖ ax ⊗ d))
      ≗ (bx ⊗ d ⊖ x) ⊗ (y ⊖ ay ⊗ d) ⊕ (x ⊖ ax ⊗ d) ⊗ (y ⊖ by ⊗ d)) tt e.a.x e.a.y e.b.x e.b.y p.x p.y p.d

  from : pos 0 ≤ℤ (p.x -ℤ e.a.x *ℤ p.d)
  from = let start = covers_from e p.x p.d over in
      omega linear

  to : pos 0 <ℤ (e.b.x *ℤ p.d -ℤ p.x)
  to = let end = covers_to e p.x p.d over in
      omega linear

  -- a point above both ends is on the upper side
  above_both : (e.a.y *ℤ p.d) <ℤ p.y → (e.b.y *ℤ p.d) <ℤ p.y → int_lt (pos 0) (side e p) ≡ true
  above_both over_a over_b =
      let one = mul-pos (e.b.x *ℤ p.d -ℤ p.x) (p.y -ℤ e.a.y *ℤ p.d) to (omega linear) in
      let other = mul-nonneg (p.x -ℤ e.a.x *ℤ p.d) (p.y -ℤ e.b.y *ℤ p.d) from (omega linear) in
      let sum = side_by_ends in
      test_from_lt (pos 0) (side e p) (pos_of_mul-pos p.d (side e p) p.positive (omega linear))

  -- and one below both is not
  below_both : p.y <ℤ (e.a.y *ℤ p.d) → p.y <ℤ (e.b.y *ℤ p.d) → int_lt (pos 0) (side e p) ≡ false
  below_both under_a under_b =
      let one = mul-neg (e.b.x *ℤ p.d -ℤ p.x) (p.y -ℤ e.a.y *ℤ p.d) to (omega linear) in
      let other = mul-nonpos (p.x -ℤ e.a.x *ℤ p.d) (p.y -ℤ e.b.y *ℤ p.d) from (omega linear) in
      let sum = side_by_ends in
      let negative = neg_of_mul-neg p.d (side e p) p.positive (omega linear) in
      test_from_ge (pos 0) (side e p) (omega linear)

-- ---- one edge

module _ (e : Edge) (p : PlanePoint) where
  -- the three tests of whether it is strictly below
  abbrev starts_before : Bool
  starts_before = int_le (e.a.x *ℤ p.d) p.x

  abbrev ends_after : Bool
  ends_after = int_lt p.x (e.b.x *ℤ p.d)

  abbrev is_under_it : Bool
  is_under_it = int_lt (pos 0) (side e p)

  -- none beyond a half plane is strictly below, but above it
  none_left : (c : ℤ) → e.b.x ≤ℤ c → (c *ℤ p.d) <ℤ p.x → is_strictly_below e p ≡ false
  none_left c b_in beyond =
      let far = le_times p.d e.b.x c p.positive b_in in
      second_fails starts_before ends_after is_under_it (test_from_ge p.x (e.b.x *ℤ p.d) (omega linear))

  none_right : (c : ℤ) → c ≤ℤ e.a.x → p.x <ℤ (c *ℤ p.d) → is_strictly_below e p ≡ false
  none_right c a_in beyond =
      let far = le_times p.d c e.a.x p.positive a_in in
      first_fails starts_before ends_after is_under_it (test_from_gt (e.a.x *ℤ p.d) p.x (omega linear))

  none_above : (c : ℤ) → c ≤ℤ e.a.y → c ≤ℤ e.b.y → p.y <ℤ (c *ℤ p.d) → is_strictly_below e p ≡ false
  none_above c a_in b_in beyond =
      let far_a = le_times p.d c e.a.y p.positive a_in in
      let far_b = le_times p.d c e.b.y p.positive b_in in
      third_fails starts_before ends_after is_under_it
      (λ over. below_both e p over (omega linear) (omega linear))

  -- there each is that covers the x-coordinate
  each_below : (c : ℤ) → e.a.y ≤ℤ c → e.b.y ≤ℤ c → (c *ℤ p.d) <ℤ p.y →
      is_strictly_below e p ≡ covers e p.x p.d
  each_below c a_in b_in beyond =
      let far_a = le_times p.d e.a.y c p.positive a_in in
      let far_b = le_times p.d e.b.y c p.positive b_in in
      third_passes starts_before ends_after is_under_it
      (λ over. above_both e p over (omega linear) (omega linear))

-- 1 for a point to the right of an x-coordinate
right_of_it : ℤ → ℤ → Point → ℤ
right_of_it x d v = cond (int_lt x (v.x *ℤ d)) (pos 1) (pos 0)

-- an edge counts over an x-coordinate as often as this number rises along it
risen : (x d k : ℤ) (e : Edge) → pos 0 <ℤ d → e.a.x ≤ℤ e.b.x →
    cond (covers e x d) k (pos 0) ≡ k *ℤ (right_of_it x d e.b -ℤ right_of_it x d e.a)
unfolding right_of_it
risen x d k e some forward =
    ap (λ r. cond (r && int_lt x (e.b.x *ℤ d)) k (pos 0)) (int_le-not (e.a.x *ℤ d) x)
    ∙ by (int_lt x (e.a.x *ℤ d)) (int_lt x (e.b.x *ℤ d)) refl refl
  where
    by : (t u : Bool) → int_lt x (e.a.x *ℤ d) ≡ t → int_lt x (e.b.x *ℤ d) ≡ u →
        cond (not t && u) k (pos 0) ≡ k *ℤ (cond u (pos 1) (pos 0) -ℤ cond t (pos 1) (pos 0))
    by true true _ _ = solve 1 (λ k. number (pos 0) ≗ k ⊗ (number (pos 1) ⊖ number (pos 1))) tt k
    by true false first second = absurd (both_ways (int_lt x (e.b.x *ℤ d)) second
        (test_from_lt x (e.b.x *ℤ d) (let far = le_times d e.a.x e.b.x some forward in
        let less = lt_from_test x (e.a.x *ℤ d) first in
        omega linear)))
    by false true _ _ = solve 1 (λ k. k ≗ k ⊗ (number (pos 1) ⊖ number (pos 0))) tt k
    by false false _ _ = solve 1 (λ k. number (pos 0) ≗ k ⊗ (number (pos 0) ⊖ number (pos 0))) tt k

-- ---- all edges

module _ (count : CountedEdge → ℤ) (es : List CountedEdge) (p : PlanePoint) where
  none_wind : ((e : CountedEdge) → Contains es e → is_strictly_below (ends_of e) p ≡ false) →
      winding_by count es p ≡ pos 0
  none_wind none = total-zero (λ e. cond (is_strictly_below (ends_of e) p) (count e) (pos 0)) es
      (λ e c. ap (λ t. cond t (count e) (pos 0)) (none e c))

  all_wind : IsForwardBy ends_of es → IsBalanced ends_of count es →
      ((e : CountedEdge) → Contains es e → is_strictly_below (ends_of e) p ≡ covers (ends_of e) p.x p.d) →
      winding_by count es p ≡ pos 0
  all_wind forward balanced each =
      total-same (λ e. cond (is_strictly_below (ends_of e) p) (count e) (pos 0))
      (λ e. count e *ℤ (right_of_it p.x p.d (ends_of e).b -ℤ right_of_it p.x p.d (ends_of e).a)) es
      (λ e c. ap (λ t. cond t (count e) (pos 0)) (each e c)
      ∙ risen p.x p.d (count e) (ends_of e) p.positive (starts_first (ends_of e)
      (All-contains (λ f. point_lt f.a f.b ≡ true) es e forward c)))
      ∙ balanced (right_of_it p.x p.d)

-- beyond a half plane that has all edges nothing winds
pub nothing_winds_beyond : NothingWindsBeyond
nothing_winds_beyond count es forward balanced (left_of c) all p beyond =
    none_wind count es p
    (λ e at. none_left (ends_of e) p c (All-contains (IsEdgeInHalf (left_of c)) es e all at).1 beyond)
nothing_winds_beyond count es forward balanced (right_of c) all p beyond =
    none_wind count es p
    (λ e at. none_right (ends_of e) p c (All-contains (IsEdgeInHalf (right_of c)) es e all at).0 beyond)
nothing_winds_beyond count es forward balanced (below c) all p beyond =
    all_wind count es p forward balanced
    (λ e at. let ends = All-contains (IsEdgeInHalf (below c)) es e all at in
    each_below (ends_of e) p c ends.0 ends.1 beyond)
nothing_winds_beyond count es forward balanced (above c) all p beyond =
    none_wind count es p
    (λ e at. let ends = All-contains (IsEdgeInHalf (above c)) es e all at in
    none_above (ends_of e) p c ends.0 ends.1 beyond)
