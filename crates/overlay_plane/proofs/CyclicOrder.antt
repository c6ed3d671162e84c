-- Rays of different directions are met in one cyclic order, wherever the turn starts; the other hand reverses it.
use Rattle.std.proofs.Common.{◌≡◌, ⊎_elim, ◌+◌, true, false, refl, ◌∙◌, arith}
use Rattle.std.proofs.lemmas.Bool.{both_ways}
use Rattle.overlay_geom.specs.Plane.{Point}
use Rattle.overlay_geom.proofs.Signs.{linear}
use Rattle.overlay_plane.specs.Turn.{Hand, turn, dot_at, part_of_turn, is_met_before, IsMetBefore, other_hand}
use Rattle.overlay_plane.specs.Turn.Hand.{left, right}
use Rattle.overlay_plane.specs.Rays.{Apart, RaysInCyclicOrder}
use Rattle.overlay_plane.proofs.Tests.{same_tests}
use Rattle.overlay_plane.proofs.Turning.{turn_exchanged}
use Rattle.overlay_plane.proofs.TurnOrder.{part_early, part_late, part_opposite, by_part, first_cases, first_by_part}
use Rattle.overlay_plane.proofs.TurnOrder.{first_by_turn, apart_exchanged, opposite, met_irreflexive, met_asymmetric}
use Rattle.overlay_plane.proofs.TurnOrder.{met_transitive, met_total}
use Rattle.overlay_plane.proofs.ThreeTurns.{two_positive_shifted, between_decides}

-- ---- the other hand

-- the other hand turns back
turn-other_hand : (hand : Hand) (v p q : Point) → turn (other_hand hand) v p q ≡ turn hand v q p
turn-other_hand left v p q = refl
turn-other_hand right v p q = refl

-- the other hand exchanges the first and the second half turn
part_reversed : (hand : Hand) (v u p : Point) → Apart v u p →
    part_of_turn (other_hand hand) v u p + part_of_turn hand v u p ≡ 2
part_reversed hand v u p apart = by_part (turn hand v u p) (dot_at v u p)
    (λ h e. let at = part_late (turn (other_hand hand) v u p) (dot_at v u p) (let s = same in
    let x = turn_exchanged hand v p u in omega linear) in omega arith)
    (λ h d e. let at = part_opposite (turn (other_hand hand) v u p) (dot_at v u p) (let s = same in
    let x = turn_exchanged hand v p u in omega linear) d in omega arith)
    (λ h e. let at = part_early (turn (other_hand hand) v u p) (dot_at v u p) (let s = same in
    let x = turn_exchanged hand v p u in omega linear) in omega arith)
    (λ h d e. absurd (let behind = opposite hand v u p apart h in omega linear))
  where
    same : turn (other_hand hand) v u p ≡ turn hand v p u
    same = turn-other_hand hand v u p

-- the other hand meets two points of other directions in the opposite order
pub met_reversed : (hand : Hand) (v u p q : Point) → Apart v u p → Apart v u q →
    is_met_before (other_hand hand) v u q p ≡ is_met_before hand v u p q
met_reversed hand v u p q up uq = same_tests (is_met_before (other_hand hand) v u q p)
    (is_met_before hand v u p q) there back
  where
    at_p : part_of_turn (other_hand hand) v u p + part_of_turn hand v u p ≡ 2
    at_p = part_reversed hand v u p up

    at_q : part_of_turn (other_hand hand) v u q + part_of_turn hand v u q ≡ 2
    at_q = part_reversed hand v u q uq

    there : is_met_before (other_hand hand) v u q p ≡ true → is_met_before hand v u p q ≡ true
    there e = ⊎_elim (λ less. first_by_part (part_of_turn hand v u p) (part_of_turn hand v u q) (turn hand v p q)
        (let a = at_p in let b = at_q in omega arith))
        (λ turned. first_by_turn (part_of_turn hand v u p) (part_of_turn hand v u q) (turn hand v p q) (let a = at_p in
        let b = at_q in let same = turned.0 in omega arith) (let t = turned.1 in let s = turn-other_hand hand v q p in
        omega linear)) (first_cases (part_of_turn (other_hand hand) v u q) (part_of_turn (other_hand hand) v u p)
        (turn (other_hand hand) v q p) e)

    back : is_met_before hand v u p q ≡ true → is_met_before (other_hand hand) v u q p ≡ true
    back e = ⊎_elim (λ less. first_by_part (part_of_turn (other_hand hand) v u q) (part_of_turn (other_hand hand) v u p)
        (turn (other_hand hand) v q p) (let a = at_p in let b = at_q in omega arith))
        (λ turned. first_by_turn (part_of_turn (other_hand hand) v u q) (part_of_turn (other_hand hand) v u p)
        (turn (other_hand hand) v q p) (let a = at_p in let b = at_q in let same = turned.0 in omega arith)
        (let t = turned.1 in let s = turn-other_hand hand v q p in omega linear))
        (first_cases (part_of_turn hand v u p) (part_of_turn hand v u q) (turn hand v p q) e)

-- ---- three rays of different directions

-- the three points are other ones than v, and seen from v in three directions
pub record AllApart (v p m q : Point) : Type 0 where
  pub one : Apart v p m
  pub two : Apart v m q
  pub three : Apart v q p

-- whichever of the three is named first, and in whichever order
pub all_apart_shifted : (v p m q : Point) → AllApart v p m q → AllApart v m q p
all_apart_shifted v p m q h = record { one = h.two; two = h.three; three = h.one }

pub all_apart_exchanged : (v p m q : Point) → AllApart v p m q → AllApart v p q m
all_apart_exchanged v p m q h = record {
  one = apart_exchanged v q p h.three;
  two = apart_exchanged v m q h.two;
  three = apart_exchanged v p m h.one;
}

-- the points between do not depend on where the turn starts
pub met_shifted : (hand : Hand) (v p m q : Point) → AllApart v p m q → IsMetBefore hand v p m q →
    IsMetBefore hand v m q p
met_shifted hand v p m q h e = (between_decides hand v m q p h.two h.three h.one).1
    (two_positive_shifted (turn hand v p m) (turn hand v m q) (turn hand v q p)
    ((between_decides hand v p m q h.one h.two h.three).0 e))

-- by the other hand it lies between them in the opposite order
pub met_by_other : (hand : Hand) (v p m q : Point) → AllApart v p m q → IsMetBefore hand v p m q →
    IsMetBefore (other_hand hand) v p q m
met_by_other hand v p m q h e = met_reversed hand v p m q h.one (apart_exchanged v q p h.three) ∙ e

-- a point that is not met before is met after
pub met_after : (hand : Hand) (v u p q : Point) → ¬ (u ≡ v) → Apart v p q → is_met_before hand v u p q ≡ false →
    IsMetBefore hand v u q p
met_after hand v u p q long apart e = ⊎_elim (λ before. absurd (both_ways (is_met_before hand v u p q) e before))
    (λ after. after) (met_total hand v u p q long apart)

-- not both p before q and q before p
pub not_both : (hand : Hand) (v u p q : Point) → ¬ (u ≡ v) → IsMetBefore hand v u p q → ¬ (IsMetBefore hand v u q p)
not_both hand v u p q long e back = both_ways (is_met_before hand v u q p) (met_asymmetric hand v u p q long e) back

-- the laws together
pub rays_in_cyclic_order : RaysInCyclicOrder
rays_in_cyclic_order hand = record {
  irreflexive = met_irreflexive hand;
  asymmetric = met_asymmetric hand;
  transitive = met_transitive hand;
  total = met_total hand;
  reversed = met_reversed hand;
  shifted = λ v p m q pm mq qp. met_shifted hand v p m q (record { one = pm; two = mq; three = qp });
}
