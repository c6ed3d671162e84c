-- The order in which a ray meets points that turns from one start, and from another: behind this one they are met in
-- the same order, and those up to it come after.
use Rattle.std.proofs.Common.{◌≡◌, false, sym, ◌∙◌}
use Rattle.std.proofs.lemmas.Bool.{both_ways, false_from_ne_true}
use Rattle.overlay_geom.specs.Plane.{Point}
use Rattle.overlay_plane.specs.Alternates.{AreOneWay}
use Rattle.overlay_plane.specs.Rays.{Apart}
use Rattle.overlay_plane.specs.Turn.{Hand, is_met_before, IsMetBefore}
use Rattle.overlay_plane.proofs.CyclicOrder.{AllApart, all_apart_shifted, met_shifted, met_after, not_both}
use Rattle.overlay_plane.proofs.TurnOrder.{apart_exchanged, one_way_exchanged, met_transitive}
use Rattle.overlay_walk.proofs.SameDirections.{started_alike, met_before_alike, none_met_before, met_last}
use Rattle.overlay_walk.proofs.SameDirections.{by_directions}

module _ (hand : Hand) (v r : Point) (start : ¬ (r ≡ v)) where
  -- where neither of two is met before the next, the first is not met before the last
  pub met_chain : (p q w : Point) → ¬ (p ≡ v) → ¬ (q ≡ v) → is_met_before hand v r p q ≡ false →
      is_met_before hand v r q w ≡ false → is_met_before hand v r p w ≡ false
  met_chain p q w long_p long_q pq qw = by_directions v p q
      (λ one. met_before_alike hand v p q long_p one r w ∙ qw)
      (λ other. false_from_ne_true (is_met_before hand v r p w) (λ pw. both_ways (is_met_before hand v r q w) qw
      (met_transitive hand v r q p w start
      (met_after hand v r p q start (record { first = long_p; second = long_q; other_ways = other }) pq) pw)))

  -- a point met before another lies in another direction than the start
  not_at_start : (a b : Point) → IsMetBefore hand v r a b → ¬ (AreOneWay v r a)
  not_at_start a b ab one = both_ways (is_met_before hand v r a b) (met_last hand v r a start one b) ab

  -- three points that are met one after the other are met so from the first of them
  met_in_turn : (a b c : Point) → AllApart v a b c → IsMetBefore hand v r a b → IsMetBefore hand v r b c →
      IsMetBefore hand v a b c
  met_in_turn a b c all ab bc = by_directions v r c at_start elsewhere
    where
      abr : Apart v a r
      abr = record {
        first = all.one.first;
        second = start;
        other_ways = λ one. not_at_start a b ab (one_way_exchanged v a r one);
      }

      bcr : Apart v b r
      bcr = record {
        first = all.two.first;
        second = start;
        other_ways = λ one. not_at_start b c bc (one_way_exchanged v b r one);
      }

      at_start : AreOneWay v r c → IsMetBefore hand v a b c
      at_start one = met_shifted hand v c a b (record { one = all.three; two = all.one; three = all.two })
          (sym (started_alike hand v r c start one a b) ∙ ab)

      elsewhere : ¬ (AreOneWay v r c) → IsMetBefore hand v a b c
      elsewhere other = twice (met_transitive hand v b c r a all.two.first from_b back_to_a)
        where
          cr : Apart v c r
          cr = record {
            first = all.two.second;
            second = start;
            other_ways = λ one. other (one_way_exchanged v c r one);
          }

          from_b : IsMetBefore hand v b c r
          from_b = met_shifted hand v r b c (record { one = apart_exchanged v b r bcr; two = all.two; three = cr }) bc

          back_to_a : IsMetBefore hand v b r a
          back_to_a = met_shifted hand v a b r (record { one = all.one; two = bcr; three = apart_exchanged v a r abr })
              (met_shifted hand v r a b (record { one = apart_exchanged v a r abr; two = all.one; three = bcr }) ab)

          twice : IsMetBefore hand v b c a → IsMetBefore hand v a b c
          twice bca = met_shifted hand v c a b (record { one = all.three; two = all.one; three = all.two })
              (met_shifted hand v b c a (record { one = all.two; two = all.three; three = all.one }) bca)

  module _ (u p q : Point) (long_u : ¬ (u ≡ v)) (long_p : ¬ (p ≡ v)) (long_q : ¬ (q ≡ v)) where
    -- where a ray from u meets q before p, these lie in other directions
    module _ (first : IsMetBefore hand v u q p) where
      uq : Apart v u q
      uq = record {
        first = long_u;
        second = long_q;
        other_ways = λ one. both_ways (is_met_before hand v u q p) (met_last hand v u q long_u one p) first;
      }

      qp : Apart v q p
      qp = record {
        first = long_q;
        second = long_p;
        other_ways = λ one. both_ways (is_met_before hand v u q p) (none_met_before hand v q p long_q one u) first;
      }

      -- and not u, p and q in turn
      not_in_turn : Apart v p u → ¬ (IsMetBefore hand v u p q)
      not_in_turn pu = not_both hand v u q p long_u first

    -- p is met behind u, and q no earlier than p
    pub later_behind : IsMetBefore hand v r u p → is_met_before hand v r q p ≡ false →
        is_met_before hand v u q p ≡ false
    later_behind up not_qp = false_from_ne_true (is_met_before hand v u q p) (λ first.
        let pu = apart_from_start first in
        not_in_turn first pu (met_in_turn u p q
        (record {
          one = apart_exchanged v p u pu;
          two = apart_exchanged v q p (qp first);
          three = apart_exchanged v u q (uq first);
        }) up
        (met_after hand v r q p start (qp first) not_qp)))
      where
        apart_from_start : IsMetBefore hand v u q p → Apart v p u
        apart_from_start first = record {
          first = long_p;
          second = long_u;
          other_ways = λ one. both_ways (is_met_before hand v r u p)
              (none_met_before hand v u p long_u (one_way_exchanged v p u one) r) up;
        }

    -- p is met behind u, and q is not
    pub behind_alone : IsMetBefore hand v r u p → is_met_before hand v r u q ≡ false →
        is_met_before hand v u q p ≡ false
    behind_alone up not_uq = false_from_ne_true (is_met_before hand v u q p) (λ first.
        let pu : Apart v p u = record {
          first = long_p;
          second = long_u;
          other_ways = λ one. both_ways (is_met_before hand v r u p)
              (none_met_before hand v u p long_u (one_way_exchanged v p u one) r) up;
        } in
        let all : AllApart v q u p = record {
          one = apart_exchanged v u q (uq first);
          two = apart_exchanged v p u pu;
          three = apart_exchanged v q p (qp first);
        } in
        not_in_turn first pu (met_shifted hand v q u p all
        (met_in_turn q u p all (met_after hand v r u q start (uq first) not_uq) up)))

    -- neither is met behind u, and q no earlier than p
    pub later_up_to : is_met_before hand v r u q ≡ false → is_met_before hand v r q p ≡ false →
        is_met_before hand v u q p ≡ false
    later_up_to not_uq not_qp = false_from_ne_true (is_met_before hand v u q p) (λ first.
        let qu = met_after hand v r u q start (uq first) not_uq in
        let pq = met_after hand v r q p start (qp first) not_qp in
        let pu : Apart v p u = record {
          first = long_p;
          second = long_u;
          other_ways = λ one. both_ways (is_met_before hand v r p u) (none_met_before hand v p u long_p one r)
              (met_transitive hand v r p q u start pq qu);
        } in
        let all : AllApart v p q u = record {
          one = apart_exchanged v q p (qp first);
          two = apart_exchanged v u q (uq first);
          three = apart_exchanged v p u pu;
        } in
        not_in_turn first pu (met_shifted hand v q u p (all_apart_shifted v p q u all)
        (met_shifted hand v p q u all (met_in_turn p q u all pq qu))))
