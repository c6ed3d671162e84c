-- A step on a given line is strictly below a plane point by where its ends lie: its sign there is a difference at its
-- ends.
use Rattle.std.proofs.Common.{◌≡◌, Bool, true, false, cond, not, ◌&&◌, ◌||◌, ℤ, pos, negsuc, ◌-ℤ◌, ◌*ℤ◌, ◌<ℤ◌, ◌≤ℤ◌}
use Rattle.std.proofs.Common.{int_lt, [], ◌∷◌, refl, sym, ap, ◌∙◌, arith}
use Rattle.std.specs.Ordering.{int_eq}
use Rattle.std.proofs.lemmas.Bool.{false≢true}
use Rattle.std.proofs.lemmas.Int.{ints, by_lt_z}
use lib.IntN.{*ℤ_comm, +ℤ_idr}
use Rattle.overlay_geom.specs.Plane.{Point, PlanePoint, Step, Edge, side, in_plane, point_eq, point_lt, edge_of}
use Rattle.overlay_geom.specs.Plane.{sign_of, is_strictly_below, steps_between, total}
use Rattle.overlay_geom.proofs.Identities.{solve, number, ◌⊕◌, ◌⊗◌, ◌⊖◌, ◌≗◌}
use Rattle.overlay_geom.proofs.Signs.{linear, mul-pos, mul-le, mul-zero, pos_of_mul-pos, lt_of_mul-lt}
use Rattle.overlay_geom.proofs.Orders.{point_eq-same}
use Rattle.overlay_plane.specs.Heights.{width}
use Rattle.overlay_plane.specs.Regions.{one_if}
use Rattle.overlay_plane.proofs.LineForms.{formE}
use Rattle.overlay_plane.proofs.Strip.{starts_first}
use Rattle.overlay_plane.proofs.Tests.{lt_from_test, ge_from_test, test_from_lt, int_le-not, same_tests}

-- the winding that the step adds at p
abbrev pub winding_part : PlanePoint → Step → ℤ
winding_part p s = cond (is_strictly_below (edge_of s) p) (sign_of s) (pos 0)

-- p lies left of v
abbrev pub is_left_of : PlanePoint → Point → Bool
is_left_of p v = int_lt p.x (v.x *ℤ p.d)

-- 1 where p lies left of v and above the line of e, else 0
abbrev pub left_above : Edge → PlanePoint → Point → ℤ
left_above e p v = one_if (is_left_of p v && int_lt (pos 0) (side e p))

-- the point lies on the line of e
abbrev pub IsOnLine : Edge → Point → Type 0
IsOnLine e v = side e (in_plane v) ≡ pos 0

-- ---- tests

-- two numbers whose products with numbers above 0 are equal pass the test for above 0 together
same_sign : (w z v y : ℤ) → pos 0 <ℤ w → pos 0 <ℤ v → w *ℤ z ≡ v *ℤ y → int_lt (pos 0) z ≡ int_lt (pos 0) y
same_sign w z v y pw pv e = same_tests (int_lt (pos 0) z) (int_lt (pos 0) y)
    (λ t. test_from_lt (pos 0) y (pos_of_mul-pos v y pv (let more = mul-pos w z pw (lt_from_test (pos 0) z t) in
    omega linear)))
    (λ t. test_from_lt (pos 0) z (pos_of_mul-pos w z pw (let more = mul-pos v y pv (lt_from_test (pos 0) y t) in
    omega linear)))

-- points to the left of a point are to the left of each further right
left_further : (p : PlanePoint) (u v : Point) → u.x ≤ℤ v.x → is_left_of p u ≡ true → is_left_of p v ≡ true
left_further p u v order left =
    let positive = p.positive in
    let more = mul-le p.d u.x v.x (omega linear) order in
    let at_u = *ℤ_comm p.d u.x in
    let at_v = *ℤ_comm p.d v.x in
    let lt = lt_from_test p.x (u.x *ℤ p.d) left in
    test_from_lt p.x (v.x *ℤ p.d) (omega linear)

-- between a point that p is not left of and one that it is left of, x grows
grows_across : (p : PlanePoint) (u v : Point) → is_left_of p u ≡ false → is_left_of p v ≡ true → u.x <ℤ v.x
grows_across p u v right left =
    let at_u = *ℤ_comm p.d u.x in
    let at_v = *ℤ_comm p.d v.x in
    let ge = ge_from_test p.x (u.x *ℤ p.d) right in
    let lt = lt_from_test p.x (v.x *ℤ p.d) left in
    lt_of_mul-lt p.d u.x v.x p.positive (omega linear)

-- a and b are whether p is left of the two ends, s whether it is above the edge, h whether it is above the line
crossed : (a b s h : Bool) → (a ≡ true → b ≡ true) → (a ≡ false → b ≡ true → s ≡ h) →
    one_if (not a && b && s) ≡ one_if (b && h) -ℤ one_if (a && h)
crossed true true s true f g = refl
crossed true true s false f g = refl
crossed true false s h f g = let no = f refl in cc
crossed false true true true f g = refl
crossed false true false false f g = refl
crossed false true true false f g = let no = g refl refl in cc
crossed false true false true f g = let no = g refl refl in cc
crossed false false s h f g = refl

-- ---- sides

-- the sides of p from two collinear edges are in proportion to their widths
sides_in_proportion : (e : Edge) (q r : Point) (p : PlanePoint) → IsOnLine e q → IsOnLine e r →
    width e *ℤ side (record { a = q; b = r }) p ≡ (r.x -ℤ q.x) *ℤ side e p
sides_in_proportion e q r p on_q on_r =
    let identity = solve 11
    (λ ax ay bx by qx qy rx ry x y d. (bx ⊖ ax) ⊗ formE qx qy rx ry x y d ≗ (rx ⊖ qx) ⊗ formE ax ay bx by x y d ⊕
    ((x ⊖ rx ⊗ d) ⊗ formE ax ay bx by qx qy (number (pos 1)) ⊕ (qx ⊗ d ⊖ x) ⊗ formE ax ay bx by rx ry
    (number (pos 1)))) tt
    e.a.x e.a.y e.b.x e.b.y q.x q.y r.x r.y p.x p.y p.d in
    let none_q = mul-zero (p.x -ℤ r.x *ℤ p.d) (side e (in_plane q)) on_q in
    let none_r = mul-zero (q.x *ℤ p.d -ℤ p.x) (side e (in_plane r)) on_r in
    omega linear

-- of two points, one that is not smaller has no smaller x
not_smaller : (q r : Point) → point_lt q r ≡ false → r.x ≤ℤ q.x
not_smaller q r back = by_lt_z q.x r.x
    (λ lt. absurd (false≢true (sym back ∙ ap (λ t. t || (int_eq q.x r.x && int_lt q.y r.y)) (test_from_lt q.x r.x lt))))
    (λ ge. ge)

-- the sign of a step back
sign_back : (t : Bool) (u v : ℤ) → one_if t ≡ u -ℤ v → cond t (negsuc 0) (pos 0) ≡ v -ℤ u
sign_back true u v e = omega (arith, ints)
sign_back false u v e = omega (arith, ints)

-- a number less itself is 0
pub nothing_left : (z : ℤ) → pos 0 ≡ z -ℤ z
nothing_left z = omega linear

-- ---- steps across p

-- p is above a step across it, from q to r, exactly where it is above the line of e
abbrev pub IsCrossedAlike : Edge → PlanePoint → Point → Point → Type 0
IsCrossedAlike e p q r = is_left_of p q ≡ false → is_left_of p r ≡ true →
    int_lt (pos 0) (side (record { a = q; b = r }) p) ≡ int_lt (pos 0) (side e p)

module _ (e : Edge) (p : PlanePoint) where
  -- such a forward edge is strictly below p by where its ends lie
  pub below_where_alike : (q r : Point) → q.x ≤ℤ r.x → IsCrossedAlike e p q r →
      one_if (is_strictly_below (record { a = q; b = r }) p) ≡ left_above e p r -ℤ left_above e p q
  below_where_alike q r order alike =
      ap (λ t. one_if (t && is_left_of p r && int_lt (pos 0) (side (record { a = q; b = r }) p)))
      (int_le-not (q.x *ℤ p.d) p.x)
      ∙ crossed (is_left_of p q) (is_left_of p r) (int_lt (pos 0) (side (record { a = q; b = r }) p))
      (int_lt (pos 0) (side e p)) (left_further p q r order) alike

  -- so is such a step, with its sign
  pub winding_part-where_alike : (q r : Point) → IsCrossedAlike e p q r → IsCrossedAlike e p r q →
      total (winding_part p) (steps_between q r) ≡ left_above e p r -ℤ left_above e p q
  winding_part-where_alike q r alike alike_back = by_equal (point_eq q r) refl
    where
      by_way : (t : Bool) → point_lt q r ≡ t →
          cond (is_strictly_below (cond t (record { a = q; b = r }) (record { a = r; b = q })) p)
          (cond t (pos 1) (negsuc 0)) (pos 0) ≡ left_above e p r -ℤ left_above e p q
      by_way true forward = below_where_alike q r (starts_first (record { a = q; b = r }) forward) alike
      by_way false back =
          sign_back (is_strictly_below (record { a = r; b = q }) p) (left_above e p q) (left_above e p r)
          (below_where_alike r q (not_smaller q r back) alike_back)

      by_equal : (t : Bool) → point_eq q r ≡ t →
          total (winding_part p) (cond t [] (record { from = q; to = r } ∷ [])) ≡ left_above e p r -ℤ left_above e p q
      by_equal true same = nothing_left (left_above e p r) ∙ ap (λ v. left_above e p r -ℤ left_above e p v)
          (sym (point_eq-same q r same))
      by_equal false apart = +ℤ_idr (winding_part p (record { from = q; to = r })) ∙ by_way (point_lt q r) refl

-- ---- along a line

module _ (e : Edge) (p : PlanePoint) (wide : pos 0 <ℤ width e) where
  -- p is above a step on the line of e exactly where it is above the line
  on_line-alike : (q r : Point) → IsOnLine e q → IsOnLine e r → IsCrossedAlike e p q r
  on_line-alike q r on_q on_r right left =
      let grows = grows_across p q r right left in
      same_sign (width e) (side (record { a = q; b = r }) p) (r.x -ℤ q.x) (side e p) wide (omega linear)
      (sides_in_proportion e q r p on_q on_r)

  -- a forward edge on the line of e is strictly below p by where its ends lie
  pub below_on_line : (q r : Point) → IsOnLine e q → IsOnLine e r → q.x ≤ℤ r.x →
      one_if (is_strictly_below (record { a = q; b = r }) p) ≡ left_above e p r -ℤ left_above e p q
  below_on_line q r on_q on_r order = below_where_alike e p q r order (on_line-alike q r on_q on_r)

  -- so is a step there, with its sign
  pub winding_part-on_line : (q r : Point) → IsOnLine e q → IsOnLine e r →
      total (winding_part p) (steps_between q r) ≡ left_above e p r -ℤ left_above e p q
  winding_part-on_line q r on_q on_r = winding_part-where_alike e p q r (on_line-alike q r on_q on_r)
      (on_line-alike r q on_r on_q)

-- a vertical edge is strictly below nothing
pub vertical_below : (p : PlanePoint) (q r : Point) → q.x ≡ r.x → is_strictly_below (record { a = q; b = r }) p ≡ false
vertical_below p q r level =
    ap (λ t. t && is_left_of p r && int_lt (pos 0) (side (record { a = q; b = r }) p)) (int_le-not (q.x *ℤ p.d) p.x)
    ∙ ap (λ z. not (int_lt p.x (z *ℤ p.d)) && is_left_of p r && int_lt (pos 0) (side (record { a = q; b = r }) p)) level
    ∙ not_both (is_left_of p r) (int_lt (pos 0) (side (record { a = q; b = r }) p))
  where
    not_both : (t s : Bool) → (not t && t && s) ≡ false
    not_both true s = refl
    not_both false s = refl

-- a vertical step adds to no winding
pub winding_part-vertical : (p : PlanePoint) (q r : Point) → q.x ≡ r.x →
    total (winding_part p) (steps_between q r) ≡ pos 0
winding_part-vertical p q r level = by_equal (point_eq q r)
  where
    by_way : (t : Bool) → cond (is_strictly_below (cond t (record { a = q; b = r }) (record { a = r; b = q })) p)
        (cond t (pos 1) (negsuc 0)) (pos 0) ≡ pos 0
    by_way true = ap (λ t. cond t (pos 1) (pos 0)) (vertical_below p q r level)
    by_way false = ap (λ t. cond t (negsuc 0) (pos 0)) (vertical_below p r q (sym level))

    by_equal : (t : Bool) → total (winding_part p) (cond t [] (record { from = q; to = r } ∷ [])) ≡ pos 0
    by_equal true = refl
    by_equal false = +ℤ_idr (winding_part p (record { from = q; to = r })) ∙ by_way (point_lt q r)
