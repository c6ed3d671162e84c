-- The order in which a ray that turns by a hand meets the points round its start: strict, transitive, and total on
-- points of different directions.
use Rattle.std.proofs.Common.{◌≡◌, ◌⊎◌, inl, inr, ⊎_elim, ℕ, ◌<◌, Bool, true, false, cond, ◌&&◌, ◌||◌, ◌==◌, nat_lt, ℤ}
use Rattle.std.proofs.Common.{pos, ◌+ℤ◌, ◌-ℤ◌, ◌*ℤ◌, neg_ℤ, ◌<ℤ◌, ◌≤ℤ◌, int_lt, sym, ap, ap₂, ◌∙◌, arith}
use Rattle.std.proofs.lemmas.Int.{by_lt_z}
use Rattle.std.proofs.lemmas.Bool.{false≢true, cases_order, or_cases, or_left, or_right, and_parts, and_from}
use Rattle.std.proofs.lemmas.Bool.{false_from_ne_true, ltb-true, eqb-true, lt-ltb, eq-eqb}
use lib.IntN.{*ℤ_comm}
use Rattle.overlay_geom.specs.Plane.{Point, cross_at}
use Rattle.overlay_geom.proofs.Products.{neg_ℤ-mul}
use Rattle.overlay_geom.proofs.Signs.{linear, by_sign, mul-pos, mul-neg, mul-zero, mul-nonneg, pos_of_mul-pos}
use Rattle.overlay_geom.proofs.Signs.{zero_of_mul-zero, mul-nonpos}
use Rattle.overlay_geom.proofs.Cross.{cross_at_exchanged}
use Rattle.overlay_plane.specs.Turn.{Hand, turn, dot_at, part_of_turn, is_met_before}
use Rattle.overlay_plane.specs.Turn.Hand.{left, right}
use Rattle.overlay_plane.specs.Alternates.{AreOneWay}
use Rattle.overlay_plane.specs.Rays.{Apart}
use Rattle.overlay_plane.proofs.Tests.{lt_from_test, test_from_lt, test_from_ge}
use Rattle.overlay_plane.proofs.Turning.{turn_exchanged, turn_of_four, turn_framed, dot_framed, dot_exchanged}
use Rattle.overlay_plane.proofs.Turning.{dot_positive, both_negative, square_nonneg}

-- the part of a turn in which a point lies, by its turn and its inner product
abbrev pub part_at : ℤ → ℤ → ℕ
part_at t d = cond (int_lt (pos 0) t) 0 (cond (int_lt t (pos 0)) 2 (cond (int_lt d (pos 0)) 1 3))

-- by the parts of two points, and the turn between them
abbrev pub comes_first : ℕ → ℕ → ℤ → Bool
comes_first i j t = nat_lt i j || (i == j && int_lt (pos 0) t)

-- ---- the parts of a turn

-- within the first half turn
pub part_early : (t d : ℤ) → pos 0 <ℤ t → part_at t d ≡ 0
part_early t d h = ap (λ b. cond b 0 (cond (int_lt t (pos 0)) 2 (cond (int_lt d (pos 0)) 1 3)))
    (test_from_lt (pos 0) t h)

-- within the second half turn
pub part_late : (t d : ℤ) → t <ℤ pos 0 → part_at t d ≡ 2
part_late t d h = ap₂ (λ b c. cond b 0 (cond c 2 (cond (int_lt d (pos 0)) 1 3))) (test_from_ge (pos 0) t (omega linear))
    (test_from_lt t (pos 0) h)

-- on the line of the start
part_level : (t d : ℤ) → t ≡ pos 0 → part_at t d ≡ cond (int_lt d (pos 0)) 1 3
part_level t d e = ap₂ (λ b c. cond b 0 (cond c 2 (cond (int_lt d (pos 0)) 1 3)))
    (test_from_ge (pos 0) t (omega linear)) (test_from_ge t (pos 0) (omega linear))

-- straight ahead
pub part_opposite : (t d : ℤ) → t ≡ pos 0 → d <ℤ pos 0 → part_at t d ≡ 1
part_opposite t d e h = part_level t d e ∙ ap (λ b. cond b 1 3) (test_from_lt d (pos 0) h)

-- at the start again
pub part_again : (t d : ℤ) → t ≡ pos 0 → pos 0 ≤ℤ d → part_at t d ≡ 3
part_again t d e h = part_level t d e ∙ ap (λ b. cond b 1 3) (test_from_ge d (pos 0) h)

-- by where a point lies
pub by_part : {P : Type 0} (t d : ℤ) → (pos 0 <ℤ t → part_at t d ≡ 0 → P) →
    (t ≡ pos 0 → d <ℤ pos 0 → part_at t d ≡ 1 → P) → (t <ℤ pos 0 → part_at t d ≡ 2 → P) →
    (t ≡ pos 0 → pos 0 ≤ℤ d → part_at t d ≡ 3 → P) → P
by_part t d early opposite late again = by_sign t (λ low. late low (part_late t d low))
    (λ level. by_sign d (λ low. opposite level low (part_opposite t d level low))
    (λ none. again level (omega linear) (part_again t d level (omega linear)))
    (λ high. again level (omega linear) (part_again t d level (omega linear))))
    (λ high. early high (part_early t d high))

-- two points in one part of a turn lie on one side
pub record SameSide (t d t' d' : ℤ) : Type 0 where
  pub early : pos 0 <ℤ t → pos 0 <ℤ t'
  pub late : t <ℤ pos 0 → t' <ℤ pos 0
  pub level : t ≡ pos 0 → t' ≡ pos 0
  pub behind : t ≡ pos 0 → d <ℤ pos 0 → d' <ℤ pos 0
  pub ahead : t ≡ pos 0 → pos 0 ≤ℤ d → pos 0 ≤ℤ d'

-- points in one part of a turn have turns of one sign
pub same_side : (t d t' d' : ℤ) → part_at t d ≡ part_at t' d' → SameSide t d t' d'
same_side t d t' d' same = by_part t d
    (λ h e. by_part t' d' (λ h' e'. record {
      early = λ a. h';
      late = λ a. absurd (omega linear);
      level = λ a. absurd (omega linear);
      behind = λ a b. absurd (omega linear);
      ahead = λ a b. absurd (omega linear);
    })
    (λ h' k' e'. absurd (omega arith)) (λ h' e'. absurd (omega arith)) (λ h' k' e'. absurd (omega arith)))
    (λ h k e. by_part t' d' (λ h' e'. absurd (omega arith))
    (λ h' k' e'. record {
      early = λ a. absurd (omega linear);
      late = λ a. absurd (omega linear);
      level = λ a. h';
      behind = λ a b. k';
      ahead = λ a b. absurd (omega linear);
    }) (λ h' e'. absurd (omega arith))
    (λ h' k' e'. absurd (omega arith)))
    (λ h e. by_part t' d' (λ h' e'. absurd (omega arith)) (λ h' k' e'. absurd (omega arith))
    (λ h' e'. record {
      early = λ a. absurd (omega linear);
      late = λ a. h';
      level = λ a. absurd (omega linear);
      behind = λ a b. absurd (omega linear);
      ahead = λ a b. absurd (omega linear);
    })
    (λ h' k' e'. absurd (omega arith)))
    (λ h k e. by_part t' d' (λ h' e'. absurd (omega arith)) (λ h' k' e'. absurd (omega arith))
    (λ h' e'. absurd (omega arith))
    (λ h' k' e'. record {
      early = λ a. absurd (omega linear);
      late = λ a. absurd (omega linear);
      level = λ a. h';
      behind = λ a b. absurd (omega linear);
      ahead = λ a b. k';
    }))

-- ---- the meaning of coming first

-- the first point lies in an earlier part, or in the same part with a turn on to the other point
pub first_cases : (i j : ℕ) (t : ℤ) → comes_first i j t ≡ true → (i < j) ⊎ ((i ≡ j) × (pos 0 <ℤ t))
first_cases i j t e = ⊎_elim (λ less. inl (ltb-true i j less))
    (λ rest. let both = and_parts (i == j) (int_lt (pos 0) t) rest in
    inr (eqb-true i j both.0, lt_from_test (pos 0) t both.1)) (or_cases (nat_lt i j) (i == j && int_lt (pos 0) t) e)

-- a point in an earlier part comes first
pub first_by_part : (i j : ℕ) (t : ℤ) → i < j → comes_first i j t ≡ true
first_by_part i j t h = or_left (nat_lt i j) (i == j && int_lt (pos 0) t) (lt-ltb i j h)

-- in one part, a point with a turn on to the other comes first
pub first_by_turn : (i j : ℕ) (t : ℤ) → i ≡ j → pos 0 <ℤ t → comes_first i j t ≡ true
first_by_turn i j t e h = or_right (nat_lt i j) (i == j && int_lt (pos 0) t)
    (and_from (i == j) (int_lt (pos 0) t) (eq-eqb i j e) (test_from_lt (pos 0) t h))

-- ---- points of different directions

-- one direction, different directions: whichever point is named first
pub one_way_exchanged : (v p q : Point) → AreOneWay v p q → AreOneWay v q p
one_way_exchanged v p q h = record {
  on_line = let opposite = cross_at_exchanged v p q in let level = h.on_line in omega linear;
  ahead = let same = dot_exchanged v p q in let on = h.ahead in omega linear;
}

pub apart_exchanged : (v p q : Point) → Apart v p q → Apart v q p
apart_exchanged v p q h = record {
  first = h.second;
  second = h.first;
  other_ways = λ one. h.other_ways (one_way_exchanged v q p one);
}

-- a turn is 0 by one hand exactly where it is by the other
level_cross : (hand : Hand) (v p q : Point) → turn hand v p q ≡ pos 0 → cross_at v p q ≡ pos 0
level_cross left v p q e = let opposite = cross_at_exchanged v p q in omega linear
level_cross right v p q e = e

-- points of different directions that are on a line with v lie on opposite sides of it
pub opposite : (hand : Hand) (v p q : Point) → Apart v p q → turn hand v p q ≡ pos 0 → dot_at v p q <ℤ pos 0
opposite hand v p q apart level = by_sign (dot_at v p q) (λ low. low) (λ none. absurd (against none))
    (λ high. absurd (apart.other_ways (record { on_line = level_cross hand v p q level; ahead = high })))
  where
    against : ¬ (dot_at v p q ≡ pos 0)
    against none =
        let long = mul-pos (dot_at v p p) (dot_at v q q) (dot_positive v p apart.first)
        (dot_positive v q apart.second) in
        let framed = dot_framed hand v p q q in
        let no_dot = mul-zero (dot_at v p q) (dot_at v p q) none in
        let no_turn = mul-zero (turn hand v p q) (turn hand v p q) level in
        omega linear

-- ---- the order is strict

-- there is no turn from a point to itself
pub turn_same : (hand : Hand) (v p : Point) → turn hand v p p ≡ pos 0
turn_same hand v p = let opposite = turn_exchanged hand v p p in omega linear

-- no point is met before itself
pub met_irreflexive : (hand : Hand) (v u p : Point) → is_met_before hand v u p p ≡ false
met_irreflexive hand v u p = false_from_ne_true (is_met_before hand v u p p)
    (λ e. ⊎_elim (λ less. omega arith) (λ turned. let positive = turned.1 in let none = turn_same hand v p in
    omega linear) (first_cases (part_of_turn hand v u p) (part_of_turn hand v u p) (turn hand v p p) e))

-- of two points on the line of u there is no turn from one to the other
pub no_turn : (hand : Hand) (v u p q : Point) → ¬ (u ≡ v) → turn hand v u p ≡ pos 0 → turn hand v u q ≡ pos 0 →
    turn hand v p q ≡ pos 0
no_turn hand v u p q long level_p level_q =
    let framed = turn_framed hand v u p q in
    let none_p = mul-zero (dot_at v u p) (turn hand v u q) level_q in
    let none_q = mul-zero (dot_at v u q) (turn hand v u p) level_p in
    zero_of_mul-zero (dot_at v u u) (turn hand v p q) (dot_positive v u long) (omega linear)

-- within one part of a turn, a turn on to a point goes on to each to which there is none back
pub turns_on : (hand : Hand) (v u p q r : Point) → ¬ (u ≡ v) → part_of_turn hand v u p ≡ part_of_turn hand v u q →
    part_of_turn hand v u q ≡ part_of_turn hand v u r →
    pos 0 <ℤ (turn hand v p q) → pos 0 ≤ℤ (turn hand v q r) → pos 0 <ℤ (turn hand v p r)
turns_on hand v u p q r long same_pq same_qr pq qr = by_sign (turn hand v u q) late level early
  where
    four : turn hand v u p *ℤ turn hand v q r +ℤ turn hand v u r *ℤ turn hand v p q ≡ turn hand v u q *ℤ turn hand v p r
    four = turn_of_four hand v u p q r

    to_p : SameSide (turn hand v u q) (dot_at v u q) (turn hand v u p) (dot_at v u p)
    to_p = same_side (turn hand v u q) (dot_at v u q) (turn hand v u p) (dot_at v u p) (sym same_pq)

    to_r : SameSide (turn hand v u q) (dot_at v u q) (turn hand v u r) (dot_at v u r)
    to_r = same_side (turn hand v u q) (dot_at v u q) (turn hand v u r) (dot_at v u r) same_qr

    early : pos 0 <ℤ (turn hand v u q) → pos 0 <ℤ (turn hand v p r)
    early h =
        let high = to_p.early h in
        let before = mul-nonneg (turn hand v u p) (turn hand v q r) (omega linear) qr in
        let after = mul-pos (turn hand v u r) (turn hand v p q) (to_r.early h) pq in
        let sum = four in
        pos_of_mul-pos (turn hand v u q) (turn hand v p r) h (omega linear)

    late : turn hand v u q <ℤ pos 0 → pos 0 <ℤ (turn hand v p r)
    late h =
        let low = to_p.late h in
        let before = mul-nonpos (turn hand v q r) (turn hand v u p) qr (omega linear) in
        let after = mul-neg (turn hand v p q) (turn hand v u r) pq (to_r.late h) in
        let exchanged_before = *ℤ_comm (turn hand v u p) (turn hand v q r) in
        let exchanged_after = *ℤ_comm (turn hand v u r) (turn hand v p q) in
        let sum = four in
        let negated = neg_ℤ-mul (turn hand v u q) (turn hand v p r) in
        pos_of_mul-pos (neg_ℤ (turn hand v u q)) (turn hand v p r) (omega linear) (omega linear)

    level : turn hand v u q ≡ pos 0 → pos 0 <ℤ (turn hand v p r)
    level h = let none = no_turn hand v u p q long (to_p.level h) h in absurd (omega linear)

-- a point met before another is met before all points after that
pub met_transitive : (hand : Hand) (v u p q r : Point) → ¬ (u ≡ v) → is_met_before hand v u p q ≡ true →
    is_met_before hand v u q r ≡ true → is_met_before hand v u p r ≡ true
met_transitive hand v u p q r long pq qr = ⊎_elim
    (λ less. ⊎_elim (λ less'. by_part_of (omega arith)) (λ turned'. by_part_of (let same = turned'.0 in omega arith))
    second) (λ turned. ⊎_elim (λ less'. by_part_of (let same = turned.0 in omega arith))
    (λ turned'. first_by_turn (part_of_turn hand v u p) (part_of_turn hand v u r) (turn hand v p r)
    (turned.0 ∙ turned'.0) (turns_on hand v u p q r long turned.0 turned'.0 turned.1 (let more = turned'.1 in
    omega linear))) second) (first_cases (part_of_turn hand v u p) (part_of_turn hand v u q) (turn hand v p q) pq)
  where
    second : (part_of_turn hand v u q < part_of_turn hand v u r)
        ⊎ ((part_of_turn hand v u q ≡ part_of_turn hand v u r) × (pos 0 <ℤ (turn hand v q r)))
    second = first_cases (part_of_turn hand v u q) (part_of_turn hand v u r) (turn hand v q r) qr

    by_part_of : part_of_turn hand v u p < part_of_turn hand v u r → is_met_before hand v u p r ≡ true
    by_part_of = first_by_part (part_of_turn hand v u p) (part_of_turn hand v u r) (turn hand v p r)

-- of two points not each is met before the other
pub met_asymmetric : (hand : Hand) (v u p q : Point) → ¬ (u ≡ v) → is_met_before hand v u p q ≡ true →
    is_met_before hand v u q p ≡ false
met_asymmetric hand v u p q long pq = false_from_ne_true (is_met_before hand v u q p)
    (λ qp. false≢true (sym (met_irreflexive hand v u p) ∙ met_transitive hand v u p q p long pq qp))

-- the start of the turn comes after every other point
pub start_is_last : (hand : Hand) (v u q : Point) → is_met_before hand v u u q ≡ false
start_is_last hand v u q = false_from_ne_true (is_met_before hand v u u q)
    (λ e. by_sign (dot_at v u u) (λ low. absurd (not_low low)) (λ none. against e (omega linear))
    (λ high. against e (omega linear)))
  where
    not_low : ¬ (dot_at v u u <ℤ pos 0)
    not_low low = let across = square_nonneg (u.x -ℤ v.x) in let up = square_nonneg (u.y -ℤ v.y) in omega linear

    last : pos 0 ≤ℤ (dot_at v u u) → part_of_turn hand v u u ≡ 3
    last high = part_again (turn hand v u u) (dot_at v u u) (turn_same hand v u) high

    against : is_met_before hand v u u q ≡ true → pos 0 ≤ℤ (dot_at v u u) → ⊥
    against e high = ⊎_elim (λ less. by_part (turn hand v u q) (dot_at v u q) (λ h at. let l = last high in omega arith)
        (λ h k at. let l = last high in omega arith) (λ h at. let l = last high in omega arith)
        (λ h k at. let l = last high in omega arith))
        (λ turned. let level = (same_side (turn hand v u u) (dot_at v u u) (turn hand v u q)
        (dot_at v u q) turned.0).level (turn_same hand v u) in let positive = turned.1 in omega linear)
        (first_cases (part_of_turn hand v u u) (part_of_turn hand v u q) (turn hand v u q) e)

-- ---- and total

-- points of different directions in one part of a turn are not on a line with v
pub apart_turns : (hand : Hand) (v u p q : Point) → ¬ (u ≡ v) → Apart v p q →
    part_of_turn hand v u p ≡ part_of_turn hand v u q → ¬ (turn hand v p q ≡ pos 0)
apart_turns hand v u p q long apart same none = by_sign (turn hand v u p) late level early
  where
    behind : dot_at v p q <ℤ pos 0
    behind = opposite hand v p q apart none

    ahead_p : pos 0 <ℤ (dot_at v p p)
    ahead_p = dot_positive v p apart.first

    sides : SameSide (turn hand v u p) (dot_at v u p) (turn hand v u q) (dot_at v u q)
    sides = same_side (turn hand v u p) (dot_at v u p) (turn hand v u q) (dot_at v u q) same

    framed : dot_at v p p *ℤ turn hand v q u ≡ dot_at v p q *ℤ turn hand v p u
    framed =
        let whole = turn_framed hand v p q u in
        let none_left = mul-zero (dot_at v p u) (turn hand v p q) none in
        omega linear

    early : pos 0 <ℤ (turn hand v u p) → ⊥
    early h =
        let from_p = turn_exchanged hand v p u in
        let from_q = turn_exchanged hand v q u in
        let side_q = sides.early h in
        let low = mul-neg (dot_at v p p) (turn hand v q u) ahead_p (omega linear) in
        let high = both_negative (dot_at v p q) (turn hand v p u) behind (omega linear) in
        let f = framed in
        omega linear

    late : turn hand v u p <ℤ pos 0 → ⊥
    late h =
        let from_p = turn_exchanged hand v p u in
        let from_q = turn_exchanged hand v q u in
        let side_q = sides.late h in
        let high = mul-pos (dot_at v p p) (turn hand v q u) ahead_p (omega linear) in
        let low = mul-neg (turn hand v p u) (dot_at v p q) (omega linear) behind in
        let exchanged = *ℤ_comm (dot_at v p q) (turn hand v p u) in
        let f = framed in
        omega linear

    level : turn hand v u p ≡ pos 0 → ⊥
    level h =
        let whole = dot_framed hand v u p q in
        let none_left = mul-zero (turn hand v u p) (turn hand v u q) (sides.level h) in
        let low = mul-neg (dot_at v u u) (dot_at v p q) (dot_positive v u long) behind in
        by_lt_z (dot_at v u p) (pos 0) (λ b. let product = both_negative (dot_at v u p) (dot_at v u q) b
        (sides.behind h b) in omega linear) (λ a. let product = mul-nonneg (dot_at v u p) (dot_at v u q) a
        (sides.ahead h a) in omega linear)

-- of two points of different directions one is met before the other
pub met_total : (hand : Hand) (v u p q : Point) → ¬ (u ≡ v) → Apart v p q →
    (is_met_before hand v u p q ≡ true) ⊎ (is_met_before hand v u q p ≡ true)
met_total hand v u p q long apart = ⊎_elim same
    (λ either. ⊎_elim (λ less. inl (first_by_part (part_of_turn hand v u p) (part_of_turn hand v u q)
    (turn hand v p q) less)) (λ more. inr (first_by_part (part_of_turn hand v u q) (part_of_turn hand v u p)
    (turn hand v q p) more)) either) (cases_order (part_of_turn hand v u p) (part_of_turn hand v u q))
  where
    same : part_of_turn hand v u p ≡ part_of_turn hand v u q →
        (is_met_before hand v u p q ≡ true) ⊎ (is_met_before hand v u q p ≡ true)
    same e = by_sign (turn hand v p q)
        (λ low. inr (first_by_turn (part_of_turn hand v u q) (part_of_turn hand v u p) (turn hand v q p) (sym e)
        (let opposite = turn_exchanged hand v q p in omega linear)))
        (λ none. absurd (apart_turns hand v u p q long apart e none))
        (λ high. inl (first_by_turn (part_of_turn hand v u p) (part_of_turn hand v u q) (turn hand v p q) e high))
