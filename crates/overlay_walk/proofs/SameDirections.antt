-- Points in one direction from a node are met alike by a ray that turns there.
use Rattle.std.proofs.Common.{◌≡◌, false, ◌&&◌, ◌||◌, ◌==◌, nat_lt, ℤ, pos, ◌*ℤ◌, ◌<ℤ◌, ◌≤ℤ◌, int_lt, sym, ap, ap₂}
use Rattle.std.proofs.Common.{◌∙◌}
use lib.IntN.{*ℤ_comm}
use Rattle.overlay_geom.specs.Plane.{Point, cross_at}
use Rattle.overlay_geom.proofs.Signs.{linear, by_sign, mul-pos, mul-neg, mul-zero, mul-nonneg, pos_of_mul-pos}
use Rattle.overlay_geom.proofs.Signs.{neg_of_mul-neg, zero_of_mul-zero, nonneg_of_mul-nonneg}
use Rattle.overlay_plane.specs.Alternates.{AreOneWay}
use Rattle.overlay_plane.specs.Turn.{Hand, turn, dot_at, part_of_turn, is_met_before}
use Rattle.overlay_plane.specs.Turn.Hand.{left, right}
use Rattle.overlay_plane.proofs.Tests.{same_tests, lt_from_test, test_from_lt}
use Rattle.overlay_plane.proofs.TurnOrder.{part_at, part_early, part_late, part_opposite, part_again, by_part}
use Rattle.overlay_plane.proofs.TurnOrder.{comes_first, met_irreflexive, start_is_last}
use Rattle.overlay_plane.proofs.Turning.{turn_exchanged, turn_framed, dot_framed, dot_exchanged, dot_positive}

-- the numbers have one sign: positive multiples of them are equal
record HaveOneSign (s t : ℤ) : Type 0 where
  by : ℤ
  to : ℤ
  by_positive : pos 0 <ℤ by
  to_positive : pos 0 <ℤ to
  same : by *ℤ t ≡ to *ℤ s

module _ (s t : ℤ) (one : HaveOneSign s t) where
  positive_too : pos 0 <ℤ s → pos 0 <ℤ t
  positive_too h = let m = mul-pos one.to s one.to_positive h in let e = one.same in
      pos_of_mul-pos one.by t one.by_positive (omega linear)

  negative_too : s <ℤ pos 0 → t <ℤ pos 0
  negative_too h = let m = mul-neg one.to s one.to_positive h in let e = one.same in
      neg_of_mul-neg one.by t one.by_positive (omega linear)

  zero_too : s ≡ pos 0 → t ≡ pos 0
  zero_too h = let m = mul-zero one.to s h in let e = one.same in
      zero_of_mul-zero one.by t one.by_positive (omega linear)

  nonneg_too : pos 0 ≤ℤ s → pos 0 ≤ℤ t
  nonneg_too h = let p = one.to_positive in let m = mul-nonneg one.to s (omega linear) h in let e = one.same in
      nonneg_of_mul-nonneg one.by t one.by_positive (omega linear)

  tests_alike : int_lt (pos 0) s ≡ int_lt (pos 0) t
  tests_alike = sym (same_tests (int_lt (pos 0) t) (int_lt (pos 0) s)
      (λ e. test_from_lt (pos 0) s (back (lt_from_test (pos 0) t e)))
      (λ e. test_from_lt (pos 0) t (positive_too (lt_from_test (pos 0) s e))))
    where
      back : pos 0 <ℤ t → pos 0 <ℤ s
      back h = let m = mul-pos one.by t one.by_positive h in let e = one.same in
          pos_of_mul-pos one.to s one.to_positive (omega linear)

-- turns and inner products of one sign lie in one part of a turn
parts_alike : (t d t' d' : ℤ) → HaveOneSign t t' → HaveOneSign d d' → part_at t d ≡ part_at t' d'
parts_alike t d t' d' ts ds = by_part t d
    (λ h e. e ∙ sym (part_early t' d' (positive_too t t' ts h)))
    (λ h k e. e ∙ sym (part_opposite t' d' (zero_too t t' ts h) (negative_too d d' ds k)))
    (λ h e. e ∙ sym (part_late t' d' (negative_too t t' ts h)))
    (λ h k e. e ∙ sym (part_again t' d' (zero_too t t' ts h) (nonneg_too d d' ds k)))

-- there is no turn between them by either hand
no_turn_between : (hand : Hand) (v p q : Point) → AreOneWay v p q → turn hand v p q ≡ pos 0
no_turn_between left v p q one = let back = turn_exchanged left v p q in let e = one.on_line in omega linear
no_turn_between right v p q one = one.on_line

module _ (hand : Hand) (v p q : Point) (long : ¬ (p ≡ v)) (one : AreOneWay v p q) where
  -- the turns from them to a third point have one sign
  turns_alike : (w : Point) → HaveOneSign (turn hand v p w) (turn hand v q w)
  turns_alike w = record {
    by = dot_at v p p;
    to = dot_at v p q;
    by_positive = dot_positive v p long;
    to_positive = one.ahead;
    same = let framed = turn_framed hand v p q w in
        let none = mul-zero (dot_at v p w) (turn hand v p q) (no_turn_between hand v p q one) in omega linear;
  }

  -- and so have the inner products
  dots_alike : (w : Point) → HaveOneSign (dot_at v p w) (dot_at v q w)
  dots_alike w = record {
    by = dot_at v p p;
    to = dot_at v p q;
    by_positive = dot_positive v p long;
    to_positive = one.ahead;
    same = let framed = dot_framed hand v p q w in
        let none = mul-zero (turn hand v p w) (turn hand v p q) (no_turn_between hand v p q one) in
        let exchanged = *ℤ_comm (turn hand v p q) (turn hand v p w) in omega linear;
  }

  -- whichever point is named first
  dots_alike_from : (w : Point) → HaveOneSign (dot_at v w p) (dot_at v w q)
  dots_alike_from w =
      let alike = dots_alike w in
      record {
        by = alike.by;
        to = alike.to;
        by_positive = alike.by_positive;
        to_positive = alike.to_positive;
        same = ap (λ d. alike.by *ℤ d) (dot_exchanged v w q) ∙ alike.same
            ∙ ap (λ d. alike.to *ℤ d) (dot_exchanged v p w);
      }

-- the turns from a third point to them have one sign
turns_alike_from : (hand : Hand) (v p q : Point) → ¬ (p ≡ v) → AreOneWay v p q → (w : Point) →
    HaveOneSign (turn hand v w p) (turn hand v w q)
turns_alike_from left v p q long one w = turns_alike right v p q long one w
turns_alike_from right v p q long one w = turns_alike left v p q long one w

module _ (hand : Hand) (v p q : Point) (long : ¬ (p ≡ v)) (one : AreOneWay v p q) where
  -- a ray that starts from one meets others as a ray that starts from the other
  pub started_alike : (a b : Point) → is_met_before hand v p a b ≡ is_met_before hand v q a b
  started_alike a b = ap₂ (λ i j. comes_first i j (turn hand v a b)) (part a) (part b)
    where
      part : (w : Point) → part_of_turn hand v p w ≡ part_of_turn hand v q w
      part w = parts_alike (turn hand v p w) (dot_at v p w) (turn hand v q w) (dot_at v q w)
          (turns_alike hand v p q long one w) (dots_alike hand v p q long one w)

  -- one is met before a third point exactly where the other is
  pub met_before_alike : (u w : Point) → is_met_before hand v u p w ≡ is_met_before hand v u q w
  met_before_alike u w = ap₂ (λ i b. nat_lt i (part_of_turn hand v u w) || (i == part_of_turn hand v u w && b))
      (parts_alike (turn hand v u p) (dot_at v u p) (turn hand v u q) (dot_at v u q)
      (turns_alike_from hand v p q long one u) (dots_alike_from hand v p q long one u))
      (tests_alike (turn hand v p w) (turn hand v q w) (turns_alike hand v p q long one w))

  -- neither is met before the other
  pub none_met_before : (u : Point) → is_met_before hand v u p q ≡ false
  none_met_before u = met_before_alike u q ∙ met_irreflexive hand v u q

  -- a ray that starts from one meets the other last
  pub met_last : (w : Point) → is_met_before hand v p q w ≡ false
  met_last w = sym (met_before_alike p w) ∙ start_is_last hand v p w

-- two points lie in one direction or not
pub by_directions : {P : Type 0} (v p q : Point) → (AreOneWay v p q → P) → (¬ (AreOneWay v p q) → P) → P
by_directions v p q one other = by_sign (cross_at v p q)
    (λ low. other (λ o. let e = o.on_line in absurd (omega linear)))
    (λ level. by_sign (dot_at v p q) (λ low. other (λ o. let h = o.ahead in absurd (omega linear)))
    (λ none. other (λ o. let h = o.ahead in absurd (omega linear)))
    (λ high. one (record { on_line = level; ahead = high })))
    (λ high. other (λ o. let e = o.on_line in absurd (omega linear)))
