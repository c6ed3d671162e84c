-- The cyclic order of rays round a point. Of three rays of different directions, a ray is met between the two others
-- exactly where two of the three turns from each to the next are positive.
use Rattle.std.proofs.Common.{◌≡◌, ◌⊎◌, inl, inr, ⊎_elim, ℕ, Bool, true, false, ℤ, pos, ◌-ℤ◌, ◌*ℤ◌, neg_ℤ, ◌<ℤ◌, ◌≤ℤ◌}
use Rattle.std.proofs.Common.{int_lt, refl, sym, ap₂, ◌∙◌}
use Rattle.std.specs.Bool.{Decides}
use Rattle.std.proofs.lemmas.Bool.{false≢true}
use Rattle.std.proofs.lemmas.Bool.Decides.{Decides-at}
use lib.IntN.{*ℤ_comm}
use Rattle.overlay_geom.specs.Plane.{Point}
use Rattle.overlay_geom.proofs.Signs.{linear, mul-neg, mul-zero, pos_of_mul-pos}
use Rattle.overlay_plane.specs.Turn.{Hand, turn, dot_at, part_of_turn, is_met_before}
use Rattle.overlay_plane.specs.Rays.{Apart}
use Rattle.overlay_plane.proofs.Tests.{lt_from_test, test_from_lt}
use Rattle.overlay_plane.proofs.Turning.{turn_exchanged, turn_framed, dot_positive, both_negative}
use Rattle.overlay_plane.proofs.TurnOrder.{comes_first, by_part, apart_exchanged, opposite, no_turn, apart_turns}

-- ---- two of three turns

-- two of the three numbers are positive
abbrev pub TwoPositive : ℤ → ℤ → ℤ → Type 0
TwoPositive x y z = ((pos 0 <ℤ x) × (pos 0 <ℤ y)) ⊎ (((pos 0 <ℤ y) × (pos 0 <ℤ z)) ⊎ ((pos 0 <ℤ z) × (pos 0 <ℤ x)))

-- it makes no difference from which of the three one starts
pub two_positive_shifted : (x y z : ℤ) → TwoPositive x y z → TwoPositive y z x
two_positive_shifted x y z h = ⊎_elim (λ xy. inr (inr xy)) (λ rest. ⊎_elim (λ yz. inl yz) (λ zx. inr (inl zx)) rest) h

-- nor in which order one goes
two_positive_reversed : (x y z : ℤ) → TwoPositive x y z → TwoPositive z y x
two_positive_reversed x y z h = ⊎_elim (λ xy. inr (inl (xy.1, xy.0)))
    (λ rest. ⊎_elim (λ yz. inl (yz.1, yz.0)) (λ zx. inr (inr (zx.1, zx.0))) rest) h

-- with two that are not positive it is not so
not_two_positive : (x y z : ℤ) → x ≤ℤ pos 0 → y ≤ℤ pos 0 → ¬ (TwoPositive x y z)
not_two_positive x y z low_x low_y h = ⊎_elim (λ xy. let a = xy.0 in omega linear)
    (λ rest. ⊎_elim (λ yz. let a = yz.0 in omega linear) (λ zx. let a = zx.1 in omega linear) rest) h

-- with one that is not positive the next is
two_positive_from : (x y z : ℤ) → x ≤ℤ pos 0 → TwoPositive x y z → pos 0 <ℤ y
two_positive_from x y z low h = ⊎_elim (λ xy. xy.1) (λ rest. ⊎_elim (λ yz. yz.0) (λ zx. let a = zx.1 in
    absurd (omega linear)) rest) h

-- ---- between, by the three turns

module _ (hand : Hand) (v p m q : Point) (pm : Apart v p m) (mq : Apart v m q) (qp : Apart v q p) where
  -- the claim, and its proof from a known test
  abbrev Claim : Type 0
  Claim = Decides (is_met_before hand v p m q) (TwoPositive (turn hand v p m) (turn hand v m q) (turn hand v q p))

  -- by the parts in which the two points lie
  at_parts : (i j : ℕ) (t : Bool) → part_of_turn hand v p m ≡ i → part_of_turn hand v p q ≡ j →
      comes_first i j (turn hand v m q) ≡ t →
      Decides t (TwoPositive (turn hand v p m) (turn hand v m q) (turn hand v q p)) → Claim
  at_parts i j t at_m at_q computed d = Decides-at (is_met_before hand v p m q) t
      (ap₂ (λ k l. comes_first k l (turn hand v m q)) at_m at_q ∙ computed) d

  passes : TwoPositive (turn hand v p m) (turn hand v m q) (turn hand v q p) →
      Decides true (TwoPositive (turn hand v p m) (turn hand v m q) (turn hand v q p))
  passes two = ((λ e. two), λ h. refl)

  fails : ¬ (TwoPositive (turn hand v p m) (turn hand v m q) (turn hand v q p)) →
      Decides false (TwoPositive (turn hand v p m) (turn hand v m q) (turn hand v q p))
  fails none = ((λ e. absurd (false≢true e)), λ h. absurd (none h))

  back : turn hand v q p ≡ neg_ℤ (turn hand v p q)
  back = turn_exchanged hand v q p

  framed : dot_at v p p *ℤ turn hand v m q ≡ dot_at v p m *ℤ turn hand v p q -ℤ dot_at v p q *ℤ turn hand v p m
  framed = turn_framed hand v p m q

  ahead : pos 0 <ℤ (dot_at v p p)
  ahead = dot_positive v p pm.first

  -- m within the first half turn
  early : pos 0 <ℤ (turn hand v p m) → part_of_turn hand v p m ≡ 0 → Claim
  early x at_m = by_part (turn hand v p q) (dot_at v p q)
      (λ w at_q. at_parts 0 0 (int_lt (pos 0) (turn hand v m q)) at_m at_q refl (
        (λ e. inl (x, lt_from_test (pos 0) (turn hand v m q) e)),
        λ two. test_from_lt (pos 0) (turn hand v m q)
            (two_positive_from (turn hand v q p) (turn hand v m q) (turn hand v p m) (let b = back in omega linear)
            (two_positive_reversed (turn hand v p m) (turn hand v m q) (turn hand v q p) two)),
      ))
      (λ w behind at_q. at_parts 0 1 true at_m at_q refl (passes (inl (x, beyond w behind))))
      (λ w at_q. at_parts 0 2 true at_m at_q refl (passes (inr (inr ((let b = back in omega linear), x)))))
      (λ w not_behind at_q. absurd (let behind = opposite hand v p q (apart_exchanged v q p qp) w in omega linear))
    where
      beyond : turn hand v p q ≡ pos 0 → dot_at v p q <ℤ pos 0 → pos 0 <ℤ (turn hand v m q)
      beyond w behind =
          let low = mul-neg (turn hand v p m) (dot_at v p q) x behind in
          let exchanged = *ℤ_comm (dot_at v p q) (turn hand v p m) in
          let none_left = mul-zero (dot_at v p m) (turn hand v p q) w in
          let f = framed in
          pos_of_mul-pos (dot_at v p p) (turn hand v m q) ahead (omega linear)

  -- m straight ahead
  straight : turn hand v p m ≡ pos 0 → dot_at v p m <ℤ pos 0 → part_of_turn hand v p m ≡ 1 → Claim
  straight x behind_m at_m = by_part (turn hand v p q) (dot_at v p q)
      (λ w at_q. at_parts 1 0 false at_m at_q refl
      (fails (λ two. not_two_positive (turn hand v q p) (turn hand v p m) (turn hand v m q) (let b = back in
      omega linear) (omega linear) (two_positive_shifted (turn hand v m q) (turn hand v q p) (turn hand v p m)
      (two_positive_shifted (turn hand v p m) (turn hand v m q) (turn hand v q p) two)))))
      (λ w behind at_q. absurd (apart_turns hand v p m q pm.first mq (at_m ∙ sym at_q)
      (no_turn hand v p m q pm.first x w)))
      (λ w at_q. at_parts 1 2 true at_m at_q refl (passes (inr (inl (beyond w, (let b = back in omega linear))))))
      (λ w not_behind at_q. absurd (let behind = opposite hand v p q (apart_exchanged v q p qp) w in omega linear))
    where
      beyond : turn hand v p q <ℤ pos 0 → pos 0 <ℤ (turn hand v m q)
      beyond w =
          let high = both_negative (dot_at v p m) (turn hand v p q) behind_m w in
          let none_left = mul-zero (dot_at v p q) (turn hand v p m) x in
          let f = framed in
          pos_of_mul-pos (dot_at v p p) (turn hand v m q) ahead (omega linear)

  -- m within the second half turn
  late : turn hand v p m <ℤ pos 0 → part_of_turn hand v p m ≡ 2 → Claim
  late x at_m = by_part (turn hand v p q) (dot_at v p q)
      (λ w at_q. at_parts 2 0 false at_m at_q refl
      (fails (λ two. not_two_positive (turn hand v q p) (turn hand v p m) (turn hand v m q) (let b = back in
      omega linear) (omega linear) (two_positive_shifted (turn hand v m q) (turn hand v q p) (turn hand v p m)
      (two_positive_shifted (turn hand v p m) (turn hand v m q) (turn hand v q p) two)))))
      (λ w behind at_q. at_parts 2 1 false at_m at_q refl
      (fails (λ two. not_two_positive (turn hand v q p) (turn hand v p m) (turn hand v m q) (let b = back in
      omega linear) (omega linear) (two_positive_shifted (turn hand v m q) (turn hand v q p) (turn hand v p m)
      (two_positive_shifted (turn hand v p m) (turn hand v m q) (turn hand v q p) two)))))
      (λ w at_q. at_parts 2 2 (int_lt (pos 0) (turn hand v m q)) at_m at_q refl (
        (λ e. inr (inl (lt_from_test (pos 0) (turn hand v m q) e, (let b = back in omega linear)))),
        λ two. test_from_lt (pos 0) (turn hand v m q)
            (two_positive_from (turn hand v p m) (turn hand v m q) (turn hand v q p) (omega linear) two),
      ))
      (λ w not_behind at_q. absurd (let behind = opposite hand v p q (apart_exchanged v q p qp) w in omega linear))

  -- m is met between p and q where two of the three turns are positive: from p to m, from m to q and from q to p
  pub between_decides : Decides (is_met_before hand v p m q)
      (TwoPositive (turn hand v p m) (turn hand v m q) (turn hand v q p))
  between_decides = by_part (turn hand v p m) (dot_at v p m) early straight late
      (λ level not_behind at_m. absurd (let behind = opposite hand v p m pm level in omega linear))
