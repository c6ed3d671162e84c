-- Where a whole point lies by one edge: on it, above it, or neither.
use Rattle.std.proofs.Common.{◌≡◌, ◌⊎◌, ⊎_elim, inl, inr, ◌↔◌, ℕ, Bool, true, false, ◌&&◌, ℤ, pos, ◌+ℤ◌, ◌-ℤ◌, ◌*ℤ◌}
use Rattle.std.proofs.Common.{◌<ℤ◌, ◌≤ℤ◌, int_lt, int_le, [], ◌∷◌, refl, sym, ap, ◌∙◌, arith}
use Rattle.std.specs.Ordering.{int_cmp, is_eq, is_gt}
use Rattle.std.proofs.lemmas.Bool.{and_parts, and_from, false_from_ne_true, false≢true}
use Rattle.std.proofs.lemmas.Int.{ints, by_lt_z}
use Rattle.std.proofs.lemmas.List.Elements.{All-nil, All-cons}
use Rattle.overlay_geom.specs.Plane.{Point, PlanePoint, Edge, IsBetween, IsOn, in_plane, is_strictly_below, side}
use Rattle.overlay_geom.specs.Plane.{point_lt}
use Rattle.overlay_geom.specs.Points.{InRange}
use Rattle.overlay_geom.proofs.AlongEdge.{sideE}
use Rattle.overlay_geom.proofs.Comparisons.{is_gt-int_cmp}
use Rattle.overlay_geom.proofs.Identities.{solve, number, ◌⊕◌, ◌⊗◌, ◌⊖◌, ◌≗◌}
use Rattle.overlay_geom.proofs.PointOrder.{Decides-point_lt}
use Rattle.overlay_geom.proofs.Signs.{linear, mul-pos, mul-neg, mul-nonneg, mul-nonpos}
use Rattle.overlay_plane.proofs.Entries.{any_of_entry}
use Rattle.overlay_plane.proofs.Tests.{lt_from_test, test_from_lt, test_from_le, same_tests}
use Rattle.overlay_relate.specs.Locations.{IsLocatedBy}
use Rattle.overlay_relate.specs.declared.location.PointLocation.TheVariants.{Boundary, Outside}
use Rattle.overlay_relate.proofs.OnEdges.{level_from_test, test_from_level}
use Rattle.overlay_relate.proofs.Parities.{differ-false}

one_times : (z : ℤ) → z *ℤ pos 1 ≡ z
one_times z = omega (arith, ints)

-- the side of a whole point, by its ways from both ends
side_split : (e : Edge) (v : Point) → side e (in_plane v) ≡ (e.b.x -ℤ v.x) *ℤ (v.y -ℤ e.a.y) +ℤ
    (v.x -ℤ e.a.x) *ℤ (v.y -ℤ e.b.y)
side_split e v = solve 6 (λ ax ay bx by x y. sideE ax ay bx by x y (number (pos 1)) ≗ (bx ⊖ x) ⊗ (y ⊖ ay) ⊕
    (x ⊖ ax) ⊗ (y ⊖ by)) tt e.a.x e.a.y e.b.x e.b.y v.x v.y

-- an edge leads to the right, or straight up
pub leads_right : (e : Edge) → point_lt e.a e.b ≡ true → e.a.x ≤ℤ e.b.x
leads_right e forward = let before = (Decides-point_lt e.a e.b).0 forward in
    before.x

and_true : (t : Bool) → (t && true) ≡ t
and_true true = refl
and_true false = refl

and_false : (t : Bool) → (t && false) ≡ false
and_false true = refl
and_false false = refl

-- ---- alone

-- a point that is not on the edge, and that the edge is not strictly below, lies outside by it alone
pub outside_of_one : (e : Edge) (p : PlanePoint) → ¬ (IsOn e p) → is_strictly_below e p ≡ false →
    IsLocatedBy (e ∷ []) p Outside
outside_of_one e p off not_below = (
  All-cons (λ f. ¬ (IsOn f p)) e [] off (All-nil (λ f. ¬ (IsOn f p))),
  differ-false (is_strictly_below e p) ∙ not_below,
)

pub on_one : (e : Edge) (p : PlanePoint) → IsOn e p → IsLocatedBy (e ∷ []) p Boundary
on_one e p on = any_of_entry (λ f. IsOn f p) (e ∷ []) e (0, omega arith, refl) on

-- ---- beside it and below it

module _ (e : Edge) (v : Point) (forward : e.a.x ≤ℤ e.b.x) where
  -- a point left of the edge
  pub left_of : v.x <ℤ e.a.x → IsLocatedBy (e ∷ []) (in_plane v) Outside
  left_of left = outside_of_one e (in_plane v)
      (λ on. ⊎_elim (λ b. let f = b.0 in omega (arith, ints)) (λ b. let f = b.0 in omega (arith, ints)) on.in_x)
      (false_from_ne_true (is_strictly_below e (in_plane v)) (λ t.
      let over = (and_parts (int_le (e.a.x *ℤ pos 1) v.x && int_lt v.x (e.b.x *ℤ pos 1)) _ t).0 in
      let from = (and_parts (int_le (e.a.x *ℤ pos 1) v.x) (int_lt v.x (e.b.x *ℤ pos 1)) over).0 in
      omega (arith, ints)))

  -- right of it
  pub right_of : e.b.x <ℤ v.x → IsLocatedBy (e ∷ []) (in_plane v) Outside
  right_of right = outside_of_one e (in_plane v)
      (λ on. ⊎_elim (λ b. let f = b.1 in omega (arith, ints)) (λ b. let f = b.1 in omega (arith, ints)) on.in_x)
      (false_from_ne_true (is_strictly_below e (in_plane v)) (λ t.
      let over = (and_parts (int_le (e.a.x *ℤ pos 1) v.x && int_lt v.x (e.b.x *ℤ pos 1)) _ t).0 in
      let to = (and_parts (int_le (e.a.x *ℤ pos 1) v.x) (int_lt v.x (e.b.x *ℤ pos 1)) over).1 in
      omega (arith, ints)))

-- ---- over it

module _ (e : Edge) (v : Point) where
  -- a point above both ends is on no point of the edge
  pub off_above : e.a.y <ℤ v.y → e.b.y <ℤ v.y → ¬ (IsOn e (in_plane v))
  off_above over_a over_b on =
      ⊎_elim (λ b. let f = b.1 in omega (arith, ints)) (λ b. let f = b.1 in omega (arith, ints)) on.in_y

  pub off_below : v.y <ℤ e.a.y → v.y <ℤ e.b.y → ¬ (IsOn e (in_plane v))
  off_below under_a under_b on =
      ⊎_elim (λ b. let f = b.0 in omega (arith, ints)) (λ b. let f = b.0 in omega (arith, ints)) on.in_y

module _ (e : Edge) (v : Point) (from : e.a.x ≤ℤ v.x) where
  -- in the span of the edge the test asks for the right end and for the side alone
  strictly_is : is_strictly_below e (in_plane v) ≡ (int_lt v.x e.b.x && int_lt (pos 0) (side e (in_plane v)))
  strictly_is =
      ap (λ t. t && int_lt v.x (e.b.x *ℤ pos 1) && int_lt (pos 0) (side e (in_plane v)))
      (test_from_le (e.a.x *ℤ pos 1) v.x (omega (arith, ints)))
      ∙ ap (λ z. int_lt v.x z && int_lt (pos 0) (side e (in_plane v))) (one_times e.b.x)

  -- the edge is strictly below a point above both ends that is left of its right end
  pub below_above : e.a.y <ℤ v.y → e.b.y <ℤ v.y → (int_lt v.x e.b.x && true) ≡ is_strictly_below e (in_plane v)
  below_above over_a over_b = and_true (int_lt v.x e.b.x)
      ∙ same_tests (int_lt v.x e.b.x) (int_lt v.x e.b.x && int_lt (pos 0) (side e (in_plane v)))
      (λ t. and_from (int_lt v.x e.b.x) (int_lt (pos 0) (side e (in_plane v))) t
      (test_from_lt (pos 0) (side e (in_plane v)) (above (lt_from_test v.x e.b.x t))))
      (λ t. (and_parts (int_lt v.x e.b.x) (int_lt (pos 0) (side e (in_plane v))) t).0) ∙ sym strictly_is
    where
      above : v.x <ℤ e.b.x → pos 0 <ℤ side e (in_plane v)
      above before =
          let identity = side_split e v in
          let first = mul-pos (e.b.x -ℤ v.x) (v.y -ℤ e.a.y) (omega linear) (omega linear) in
          let second = mul-nonneg (v.x -ℤ e.a.x) (v.y -ℤ e.b.y) (omega linear) (omega linear) in
          omega linear

  -- and not strictly below one below both ends
  pub not_below_below : v.y <ℤ e.a.y → v.y <ℤ e.b.y → is_strictly_below e (in_plane v) ≡ false
  not_below_below under_a under_b = strictly_is
      ∙ false_from_ne_true (int_lt v.x e.b.x && int_lt (pos 0) (side e (in_plane v))) (λ t.
      let both = and_parts (int_lt v.x e.b.x) (int_lt (pos 0) (side e (in_plane v))) t in
      let before = lt_from_test v.x e.b.x both.0 in
      let positive = lt_from_test (pos 0) (side e (in_plane v)) both.1 in
      let identity = side_split e v in
      let first = mul-neg (e.b.x -ℤ v.x) (v.y -ℤ e.a.y) (omega linear) (omega linear) in
      let second = mul-nonpos (v.x -ℤ e.a.x) (v.y -ℤ e.b.y) (omega linear) (omega linear) in
      omega linear)

  pub none_below : v.y <ℤ e.a.y → v.y <ℤ e.b.y → (int_lt v.x e.b.x && false) ≡ is_strictly_below e (in_plane v)
  none_below under_a under_b = and_false (int_lt v.x e.b.x) ∙ sym (not_below_below under_a under_b)

  -- the sign of the side tells the others
  pub below_by_sign : (z : ℤ) → z ≡ side e (in_plane v) →
      (int_lt v.x e.b.x && is_gt (int_cmp z (pos 0))) ≡ is_strictly_below e (in_plane v)
  below_by_sign z is = ap (λ t. int_lt v.x e.b.x && t) (is_gt-int_cmp z (pos 0)
      ∙ ap (int_lt (pos 0)) is) ∙ sym strictly_is

-- a point below both ends lies outside by the edge alone
pub under : (e : Edge) (v : Point) → e.a.x ≤ℤ e.b.x → v.y <ℤ e.a.y → v.y <ℤ e.b.y →
    IsLocatedBy (e ∷ []) (in_plane v) Outside
under e v forward under_a under_b = by_lt_z v.x e.a.x (left_of e v forward)
    (λ from. outside_of_one e (in_plane v) (off_below e v under_a under_b) (not_below_below e v from under_a under_b))

-- between the heights of the ends
module _ (e : Edge) (v : Point) (from : e.a.x ≤ℤ v.x) (to : v.x ≤ℤ e.b.x)
    (not_above : (int_lt e.a.y v.y && int_lt e.b.y v.y) ≡ false)
    (not_below : (int_lt v.y e.a.y && int_lt v.y e.b.y) ≡ false) where
  between : IsBetween v.y e.a.y e.b.y
  between = by_lt_z e.a.y v.y
      (λ over_a. inl (
        omega (arith, ints),
        by_lt_z e.b.y v.y (λ over_b. absurd (both_fail
            (and_from (int_lt e.a.y v.y) (int_lt e.b.y v.y) (test_from_lt e.a.y v.y over_a)
            (test_from_lt e.b.y v.y over_b))
            not_above)) (λ le. le),
      ))
      (λ not_over_a. by_lt_z v.y e.a.y
      (λ under_a. inr (
        by_lt_z v.y e.b.y (λ under_b. absurd (both_fail
            (and_from (int_lt v.y e.a.y) (int_lt v.y e.b.y) (test_from_lt v.y e.a.y under_a)
            (test_from_lt v.y e.b.y under_b))
            not_below)) (λ le. le),
        omega (arith, ints),
      ))
      (λ not_under_a. by_lt_z v.y e.b.y
      (λ under_b. inl (omega (arith, ints), omega (arith, ints)))
      (λ over_b. inr (omega (arith, ints), omega (arith, ints)))))
    where
      both_fail : {t : Bool} → t ≡ true → t ≡ false → ⊥
      both_fail t f = false≢true (sym f ∙ t)

  -- so it is in range where the edge is
  pub in_range_between : (limit : ℕ) → InRange limit e.a → InRange limit e.b → InRange limit v
  in_range_between limit a b = record {
    x = record { low = let l = a.x.low in omega (arith, ints); high = let h = b.x.high in omega (arith, ints) };
    y = ⊎_elim
        (λ u. let l = a.y.low in let h = b.y.high in let f = u.0 in let t = u.1 in record {
          low = omega (arith, ints);
          high = omega (arith, ints);
        })
        (λ u. let l = b.y.low in let h = a.y.high in let f = u.0 in let t = u.1 in record {
          low = omega (arith, ints);
          high = omega (arith, ints);
        })
        between;
  }

  -- and on the edge where the side is 0
  pub on_by_sign : (z : ℤ) → z ≡ side e (in_plane v) → (is_eq (int_cmp z (pos 0)) ≡ true) ↔ IsOn e (in_plane v)
  on_by_sign z is = (
    λ t. record {
      on_line = sym is ∙ level_from_test z t;
      in_x = inl (omega (arith, ints), omega (arith, ints));
      in_y = ⊎_elim (λ u. let f = u.0 in let t = u.1 in inl (omega (arith, ints), omega (arith, ints)))
          (λ u. let f = u.0 in let t = u.1 in inr (omega (arith, ints), omega (arith, ints))) between;
    },
    λ on. test_from_level z (is ∙ on.on_line),
  )
