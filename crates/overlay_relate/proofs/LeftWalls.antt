-- Windings just to the left of a point: they differ from those at the point by the counts of the edges that end on the
-- wall, the upright ray down from the point.
use Rattle.std.proofs.Common.{◌≡◌, inl, Bool, true, false, ◌&&◌, ℤ, pos, ◌-ℤ◌, ◌*ℤ◌}
use Rattle.std.proofs.Common.{◌<ℤ◌, ◌≤ℤ◌, int_lt, int_le, sym, ap, ap₂, ◌∙◌}
use Rattle.std.specs.Ordering.{int_eq}
use Rattle.std.proofs.lemmas.Bool.{false_from_ne_true}
use Rattle.std.proofs.lemmas.Bool.Decides.{Decides-int_eq}
use Rattle.std.proofs.lemmas.Int.{by_lt_z}
use Rattle.overlay_geom.specs.Plane.{Point, PlanePoint, Edge, IsOn, side, point_lt}
use Rattle.overlay_geom.specs.Plane.{is_strictly_below}
use Rattle.overlay_geom.proofs.AlongEdge.{sideE, over_le, over_lt}
use Rattle.overlay_geom.proofs.Identities.{solve, number, ◌⊗◌, ◌⊖◌, ◌≗◌}
use Rattle.overlay_geom.proofs.PointOrder.{IsBefore}
use Rattle.overlay_geom.proofs.Signs.{linear, by_sign, mul-zero}
use Rattle.overlay_plane.specs.Heights.{width}
use Rattle.overlay_plane.specs.Regions.{one_if}
use Rattle.overlay_plane.proofs.NearAbscissas.{times_test}
use Rattle.overlay_plane.proofs.Tests.{test_from_lt, test_from_le, test_from_ge, test_from_gt, lt_from_test, same_tests}
use Rattle.overlay_plane.proofs.WholeOnEdges.{forward_from_test}
use Rattle.overlay_relate.proofs.NearPoints.{is_left_below}

-- 1 on the wall down from p, 0 elsewhere
abbrev pub wall : PlanePoint → Point → ℤ
wall p v = one_if (int_eq (v.x *ℤ p.d) p.x && int_lt (v.y *ℤ p.d) p.y)

module _ (p : PlanePoint) where
  -- a point of another column is not on the wall
  pub not_on_wall : (v : Point) → ¬ (v.x *ℤ p.d ≡ p.x) → wall p v ≡ pos 0
  not_on_wall v apart = ap (λ t. one_if (t && int_lt (v.y *ℤ p.d) p.y))
      (false_from_ne_true (int_eq (v.x *ℤ p.d) p.x) (λ t. apart ((Decides-int_eq (v.x *ℤ p.d) p.x).0 t)))

  -- one of its column is there where it is below p
  pub on_wall : (v : Point) → v.x *ℤ p.d ≡ p.x → wall p v ≡ one_if (int_lt (v.y *ℤ p.d) p.y)
  on_wall v is = ap (λ t. one_if (t && int_lt (v.y *ℤ p.d) p.y)) ((Decides-int_eq (v.x *ℤ p.d) p.x).1 is)

  module _ (f : Edge) (forward : point_lt f.a f.b ≡ true) where
    abbrev is_low : Bool
    is_low = int_lt (pos 0) (side f p)

    in_order : IsBefore f.a f.b
    in_order = forward_from_test f forward

    starts_first : (f.a.x *ℤ p.d) ≤ℤ (f.b.x *ℤ p.d)
    starts_first = over_le f.a.x f.b.x p.d p.positive in_order.x

    -- the rise by the four tests on x
    by_tests : (a b c d : Bool) → int_lt (f.a.x *ℤ p.d) p.x ≡ a → int_le p.x (f.b.x *ℤ p.d) ≡ b →
        int_le (f.a.x *ℤ p.d) p.x ≡ c → int_lt p.x (f.b.x *ℤ p.d) ≡ d →
        one_if (is_left_below f p) -ℤ one_if (is_strictly_below f p) ≡
        one_if ((a && b) && is_low) -ℤ one_if ((c && d) && is_low)
    by_tests a b c d at_a at_b at_c at_d = ap₂ (λ s t. one_if (s && is_low) -ℤ one_if (t && is_low))
        (ap₂ (λ s t. s && t) at_a at_b) (ap₂ (λ s t. s && t) at_c at_d)

    shifted : (u v : ℤ) → int_lt (pos 0) (v -ℤ u) ≡ int_lt u v
    shifted u v = same_tests (int_lt (pos 0) (v -ℤ u)) (int_lt u v)
        (λ t. test_from_lt u v (let h = lt_from_test (pos 0) (v -ℤ u) t in omega linear))
        (λ t. test_from_lt (pos 0) (v -ℤ u) (let h = lt_from_test u v t in omega linear))

    -- over its end an edge is below p where its end is
    low_at_end : pos 0 <ℤ width f → f.b.x *ℤ p.d ≡ p.x → is_low ≡ int_lt (f.b.y *ℤ p.d) p.y
    low_at_end wide at = times_test (width f) (p.y -ℤ f.b.y *ℤ p.d) (side f p) wide
        (let is = solve 7 (λ ax ay bx by x y d. sideE ax ay bx by x y d ≗
        (bx ⊖ ax) ⊗ (y ⊖ by ⊗ d) ⊖ (by ⊖ ay) ⊗ (x ⊖ bx ⊗ d)) tt f.a.x f.a.y f.b.x f.b.y p.x p.y p.d in
        let none = mul-zero (f.b.y -ℤ f.a.y) (p.x -ℤ f.b.x *ℤ p.d) (omega linear) in
        omega linear) ∙ shifted (f.b.y *ℤ p.d) p.y

    low_at_start : pos 0 <ℤ width f → f.a.x *ℤ p.d ≡ p.x → is_low ≡ int_lt (f.a.y *ℤ p.d) p.y
    low_at_start wide at = times_test (width f) (p.y -ℤ f.a.y *ℤ p.d) (side f p) wide
        (let none = mul-zero (f.b.y -ℤ f.a.y) (p.x -ℤ f.a.x *ℤ p.d) (omega linear) in omega linear)
        ∙ shifted (f.a.y *ℤ p.d) p.y

    -- an edge over p.x, with an end at p.x, is not upright
    wide_of : (f.a.x *ℤ p.d) <ℤ (f.b.x *ℤ p.d) → pos 0 <ℤ width f
    wide_of less = by_lt_z f.a.x f.b.x (λ lt. omega linear)
        (λ ge. absurd (let le = over_le f.b.x f.a.x p.d p.positive ge in omega linear))

    zero_rise : (z : ℤ) → z -ℤ z ≡ pos 0 -ℤ pos 0
    zero_rise z = solve 1 (λ z. z ⊖ z ≗ number (pos 0) ⊖ number (pos 0)) tt z

    module _ (off : ¬ (IsOn f p)) where
      -- an upright edge in p's column has both ends on the wall or none
      both_on_wall : f.a.x *ℤ p.d ≡ p.x → f.b.x *ℤ p.d ≡ p.x →
          int_lt (f.b.y *ℤ p.d) p.y ≡ int_lt (f.a.y *ℤ p.d) p.y
      both_on_wall at_a at_b = same_tests (int_lt (f.b.y *ℤ p.d) p.y) (int_lt (f.a.y *ℤ p.d) p.y)
          (λ t. test_from_lt (f.a.y *ℤ p.d) p.y
          (let h = lt_from_test (f.b.y *ℤ p.d) p.y t in let le = rises in omega linear))
          (λ t. test_from_lt (f.b.y *ℤ p.d) p.y (by_lt_z (f.b.y *ℤ p.d) p.y (λ less. less)
          (λ ge. absurd (off (at_edge (lt_from_test (f.a.y *ℤ p.d) p.y t) ge)))))
        where
          same_x : f.b.x ≤ℤ f.a.x
          same_x = by_lt_z f.a.x f.b.x (λ less. absurd (apart less)) (λ le. le)
            where
              apart : f.a.x <ℤ f.b.x → ⊥
              apart less =
                  let lt = over_lt f.a.x f.b.x p.d p.positive less in
                  omega linear

          rises : (f.a.y *ℤ p.d) ≤ℤ (f.b.y *ℤ p.d)
          rises = over_le f.a.y f.b.y p.d p.positive (let up = in_order.y same_x in omega linear)

          at_edge : (f.a.y *ℤ p.d) <ℤ p.y → p.y ≤ℤ (f.b.y *ℤ p.d) → IsOn f p
          at_edge low high = record {
            on_line =
                let narrow : width f ≡ pos 0 = let x = in_order.x in let y = same_x in omega linear in
                let first = ap (λ w. w *ℤ (p.y -ℤ f.a.y *ℤ p.d)) narrow in
                let zero = solve 1 (λ z. number (pos 0) ⊗ z ≗ number (pos 0)) tt (p.y -ℤ f.a.y *ℤ p.d) in
                let none = mul-zero (f.b.y -ℤ f.a.y) (p.x -ℤ f.a.x *ℤ p.d) (omega linear) in
                omega linear;
            in_x = inl (omega linear, omega linear);
            in_y = inl (omega linear, high);
          }

      -- to the left of p an edge is below as at p, but for its ends on the wall
      pub left_rise : one_if (is_left_below f p) -ℤ one_if (is_strictly_below f p) ≡ wall p f.b -ℤ wall p f.a
      left_rise = by_sign (f.a.x *ℤ p.d -ℤ p.x) before_p at_p after_p
        where
          Rise : Type 0
          Rise = one_if (is_left_below f p) -ℤ one_if (is_strictly_below f p) ≡ wall p f.b -ℤ wall p f.a

          before_p : (f.a.x *ℤ p.d -ℤ p.x) <ℤ pos 0 → Rise
          before_p first = by_sign (f.b.x *ℤ p.d -ℤ p.x)
              (λ less. by_tests true false true false at_a (test_from_gt p.x (f.b.x *ℤ p.d) (omega linear)) at_c
              (test_from_ge p.x (f.b.x *ℤ p.d) (omega linear))
              ∙ sym (ap₂ (λ u v. u -ℤ v) (not_on_wall f.b (λ is. omega linear)) none_a))
              (λ same. by_tests true true true false at_a (test_from_le p.x (f.b.x *ℤ p.d) (omega linear)) at_c
              (test_from_ge p.x (f.b.x *ℤ p.d) (omega linear))
              ∙ ap (λ t. one_if t -ℤ pos 0) (low_at_end (wide_of (omega linear)) (omega linear))
              ∙ sym (ap₂ (λ u v. u -ℤ v) (on_wall f.b (omega linear)) none_a))
              (λ more. by_tests true true true true at_a (test_from_le p.x (f.b.x *ℤ p.d) (omega linear)) at_c
              (test_from_lt p.x (f.b.x *ℤ p.d) (omega linear)) ∙ zero_rise (one_if is_low)
              ∙ sym (ap₂ (λ u v. u -ℤ v) (not_on_wall f.b (λ is. omega linear)) none_a))
            where
              at_a : int_lt (f.a.x *ℤ p.d) p.x ≡ true
              at_a = test_from_lt (f.a.x *ℤ p.d) p.x (omega linear)

              at_c : int_le (f.a.x *ℤ p.d) p.x ≡ true
              at_c = test_from_le (f.a.x *ℤ p.d) p.x (omega linear)

              none_a : wall p f.a ≡ pos 0
              none_a = not_on_wall f.a (λ is. omega linear)

          at_p : f.a.x *ℤ p.d -ℤ p.x ≡ pos 0 → Rise
          at_p here = by_lt_z p.x (f.b.x *ℤ p.d)
              (λ more. by_tests false true true true at_a (test_from_le p.x (f.b.x *ℤ p.d) (omega linear)) at_c
              (test_from_lt p.x (f.b.x *ℤ p.d) more)
              ∙ ap (λ t. pos 0 -ℤ one_if t) (low_at_start (wide_of (omega linear)) (omega linear))
              ∙ sym (ap₂ (λ u v. u -ℤ v) (not_on_wall f.b (λ is. omega linear)) (on_wall f.a (omega linear))))
              (λ le. by_tests false true true false at_a
              (test_from_le p.x (f.b.x *ℤ p.d) (let first = starts_first in omega linear)) at_c
              (test_from_ge p.x (f.b.x *ℤ p.d) le)
              ∙ sym (ap₂ (λ u v. u -ℤ v) (on_wall f.b (let first = starts_first in omega linear)
              ∙ ap one_if (both_on_wall (omega linear) (let first = starts_first in omega linear)))
              (on_wall f.a (omega linear)) ∙ zero_rise (one_if (int_lt (f.a.y *ℤ p.d) p.y))))
            where
              at_a : int_lt (f.a.x *ℤ p.d) p.x ≡ false
              at_a = test_from_ge (f.a.x *ℤ p.d) p.x (omega linear)

              at_c : int_le (f.a.x *ℤ p.d) p.x ≡ true
              at_c = test_from_le (f.a.x *ℤ p.d) p.x (omega linear)

          after_p : pos 0 <ℤ (f.a.x *ℤ p.d -ℤ p.x) → Rise
          after_p later =
              let first = starts_first in
              by_tests false true false true (test_from_ge (f.a.x *ℤ p.d) p.x (omega linear))
              (test_from_le p.x (f.b.x *ℤ p.d) (omega linear)) (test_from_gt (f.a.x *ℤ p.d) p.x (omega linear))
              (test_from_lt p.x (f.b.x *ℤ p.d) (omega linear))
              ∙ sym (ap₂ (λ u v. u -ℤ v) (not_on_wall f.b (λ is. omega linear)) (not_on_wall f.a (λ is. omega linear)))
