-- Paths along two segments on which both stay at one level: from any place between the ends they lead to a place at
-- which an end stands alone.
use lib.IntN.{*ℤ_comm}
use Rattle.std.proofs.Common.{◌≡◌, ◌⊎◌, inl, inr, ⊎_elim, ℤ, pos, ◌+ℤ◌, ◌-ℤ◌, ◌*ℤ◌, ◌<ℤ◌, ◌≤ℤ◌, sym, ap, ◌∙◌}
use Rattle.std.proofs.lemmas.Int.{by_lt_z}
use Rattle.overlay_geom.proofs.Identities.{solve, number, ◌⊕◌, ◌⊗◌, ◌⊖◌, ◌≗◌}
use Rattle.overlay_geom.proofs.Signs.{linear, mul-pos, mul-nonneg, pos_of_mul-pos}
use Rattle.overlay_plane.proofs.CommonLevels.{OfEnds, excess, HaveOneLevel, mixed_weights, excess_mixed}

-- an end has no weight, so that the other end of its segment stands alone
abbrev pub SomeIsZero : OfEnds → Type 0
SomeIsZero u = ((u.p ≡ pos 0) ⊎ (u.q ≡ pos 0)) ⊎ ((u.k ≡ pos 0) ⊎ (u.l ≡ pos 0))

-- by a along the first segment and by b along the second
abbrev pub way : ℤ → ℤ → OfEnds
way a b = record { p = pos 0 -ℤ a; q = a; k = pos 0 -ℤ b; l = b }

-- the way back has the excess of the way with the other sign
pub way_back : (of : OfEnds) (a b : ℤ) → excess of (way (pos 0 -ℤ a) (pos 0 -ℤ b)) ≡ pos 0 -ℤ excess of (way a b)
way_back of a b = solve 6 (λ p q k l a b.
    ((number (pos 0) ⊖ (number (pos 0) ⊖ a)) ⊗ p ⊕ (number (pos 0) ⊖ a) ⊗ q) ⊖
    ((number (pos 0) ⊖ (number (pos 0) ⊖ b)) ⊗ k ⊕ (number (pos 0) ⊖ b) ⊗ l) ≗
    number (pos 0) ⊖ (((number (pos 0) ⊖ a) ⊗ p ⊕ a ⊗ q) ⊖ ((number (pos 0) ⊖ b) ⊗ k ⊕ b ⊗ l))) tt
    of.p of.q of.k of.l a b

-- y times the way leads from x times the weights m and n of a segment's ends no farther than to where one of them is 0.
-- This holds if y times the pace is at most x times the distance
record Room (m n a : ℤ) : Type 0 where
  room : ℤ
  pace : ℤ
  wide : pos 0 <ℤ room
  pace_nonneg : pos 0 ≤ℤ pace
  rests : pace ≡ pos 0 → a ≡ pos 0
  stays : (x y : ℤ) → pos 0 <ℤ x → pos 0 <ℤ y → (y *ℤ pace) ≤ℤ (x *ℤ room) →
      (pos 0 ≤ℤ (x *ℤ m +ℤ y *ℤ (pos 0 -ℤ a))) × (pos 0 ≤ℤ (x *ℤ n +ℤ y *ℤ a))
  ends : (x y : ℤ) → x *ℤ room ≡ y *ℤ pace →
      (x *ℤ m +ℤ y *ℤ (pos 0 -ℤ a) ≡ pos 0) ⊎ (x *ℤ n +ℤ y *ℤ a ≡ pos 0)

-- a product with a number whose sign is turned
turned : (y a : ℤ) → y *ℤ (pos 0 -ℤ a) ≡ pos 0 -ℤ y *ℤ a
turned = solve 2 (λ y a. y ⊗ (number (pos 0) ⊖ a) ≗ number (pos 0) ⊖ y ⊗ a) tt

-- the weight of the end from which one goes away runs out
room_along : (m n a : ℤ) → pos 0 <ℤ m → pos 0 <ℤ n → Room m n a
room_along m n a m_pos n_pos = by_lt_z a (pos 0) back onward
  where
    back : a <ℤ pos 0 → Room m n a
    back less = record {
      room = n;
      pace = pos 0 -ℤ a;
      wide = n_pos;
      pace_nonneg = omega linear;
      rests = λ e. omega linear;
      stays = λ x y x_pos y_pos le.
          let other = mul-pos x m x_pos m_pos in
          let more = mul-pos y (pos 0 -ℤ a) y_pos (omega linear) in
          let turn = turned y a in
          (omega linear, omega linear);
      ends = λ x y e. let turn = turned y a in inr (omega linear);
    }

    onward : pos 0 ≤ℤ a → Room m n a
    onward nonneg = record {
      room = m;
      pace = a;
      wide = m_pos;
      pace_nonneg = nonneg;
      rests = λ e. e;
      stays = λ x y x_pos y_pos le.
          let other = mul-pos x n x_pos n_pos in
          let more = mul-nonneg y a (omega linear) nonneg in
          let turn = turned y a in
          (omega linear, omega linear);
      ends = λ x y e. let turn = turned y a in inl (omega linear);
    }

-- how far one goes along both segments until a weight is 0
record Farthest (r c s d : ℤ) : Type 0 where
  x : ℤ
  y : ℤ
  x_pos : pos 0 <ℤ x
  y_pos : pos 0 <ℤ y
  first : (y *ℤ c) ≤ℤ (x *ℤ r)
  second : (y *ℤ d) ≤ℤ (x *ℤ s)
  at : (x *ℤ r ≡ y *ℤ c) ⊎ (x *ℤ s ≡ y *ℤ d)

-- by the smaller of the two quotients of room and pace
farthest : (r c s d : ℤ) → pos 0 <ℤ r → pos 0 <ℤ s → pos 0 ≤ℤ c → pos 0 ≤ℤ d → (c ≡ pos 0 → d ≡ pos 0 → ⊥) →
    Farthest r c s d
farthest r c s d r_pos s_pos c_nonneg d_nonneg moving = by_lt_z (s *ℤ c) (r *ℤ d) by_second by_first
  where
    by_second : (s *ℤ c) <ℤ (r *ℤ d) → Farthest r c s d
    by_second lt =
        let some = mul-nonneg s c (omega linear) c_nonneg in
        let turn_c = *ℤ_comm s c in
        let turn_d = *ℤ_comm r d in
        let turn_s = *ℤ_comm s d in
        record {
          x = d;
          y = s;
          x_pos = pos_of_mul-pos r d r_pos (omega linear);
          y_pos = s_pos;
          first = omega linear;
          second = omega linear;
          at = inr (omega linear);
        }

    by_first : (r *ℤ d) ≤ℤ (s *ℤ c) → Farthest r c s d
    by_first le =
        let turn_c = *ℤ_comm s c in
        let turn_r = *ℤ_comm r c in
        record {
          x = c;
          y = r;
          x_pos = by_lt_z (pos 0) c (λ lt. lt) (λ none. absurd (against none));
          y_pos = r_pos;
          first = omega linear;
          second = omega linear;
          at = inl (omega linear);
        }
      where
        against : c ≤ℤ pos 0 → ⊥
        against none = by_lt_z (pos 0) d
            (λ some.
            let more = mul-pos r d r_pos some in
            let zero : c ≡ pos 0 = omega linear in
            let product = ap (λ t. s *ℤ t) zero in
            let nothing = solve 1 (λ s. s ⊗ number (pos 0) ≗ number (pos 0)) tt s in
            omega linear)
            (λ zero. moving (omega linear) (omega linear))

-- the weights that one reaches
pub record Reached (z u : OfEnds) (a b : ℤ) : Type 0 where
  pub x : ℤ
  pub y : ℤ
  pub y_pos : pos 0 <ℤ y
  pub one_level : HaveOneLevel z (mixed_weights x u y (way a b))
  pub at : SomeIsZero (mixed_weights x u y (way a b))

-- the weights of a segment add up to as much as before, times x
sum_kept : (x y m n a : ℤ) → (x *ℤ m +ℤ y *ℤ (pos 0 -ℤ a)) +ℤ (x *ℤ n +ℤ y *ℤ a) ≡ x *ℤ (m +ℤ n)
sum_kept = solve 5 (λ x y m n a. (x ⊗ m ⊕ y ⊗ (number (pos 0) ⊖ a)) ⊕ (x ⊗ n ⊕ y ⊗ a) ≗ x ⊗ (m ⊕ n)) tt

-- on a way along which the levels stay the same one comes to a weight that is 0
pub reached : (z u : OfEnds) (a b : ℤ) → HaveOneLevel z u → pos 0 <ℤ u.p → pos 0 <ℤ u.q → pos 0 <ℤ u.k →
    pos 0 <ℤ u.l → excess z (way a b) ≡ pos 0 → (a ≡ pos 0 → b ≡ pos 0 → ⊥) → Reached z u a b
reached z u a b have p q k l same moving =
    let one = room_along u.p u.q a p q in
    let two = room_along u.k u.l b k l in
    let far = farthest one.room one.pace two.room two.pace one.wide two.wide one.pace_nonneg two.pace_nonneg
    (λ e f. moving (one.rests e) (two.rests f)) in
    let first = one.stays far.x far.y far.x_pos far.y_pos far.first in
    let second = two.stays far.x far.y far.x_pos far.y_pos far.second in
    record {
      x = far.x;
      y = far.y;
      y_pos = far.y_pos;
      one_level = record {
        p = first.0;
        q = first.1;
        k = second.0;
        l = second.1;
        some =
            let sum = sum_kept far.x far.y u.p u.q a in
            let more = mul-pos far.x (u.p +ℤ u.q) far.x_pos have.some in
            omega linear;
        even = sum_kept far.x far.y u.p u.q a ∙ ap (λ t. far.x *ℤ t) have.even ∙ sym (sum_kept far.x far.y u.k u.l b);
        level = excess_mixed z u (way a b) far.x far.y ∙ ap (λ t. far.x *ℤ t +ℤ far.y *ℤ excess z (way a b)) have.level
            ∙ ap (λ t. far.x *ℤ pos 0 +ℤ far.y *ℤ t) same
            ∙ solve 2 (λ x y. x ⊗ number (pos 0) ⊕ y ⊗ number (pos 0) ≗ number (pos 0)) tt far.x far.y;
      };
      at = ⊎_elim (λ e. inl (one.ends far.x far.y e)) (λ e. inr (two.ends far.x far.y e)) far.at;
    }
