-- Two neighbouring rays of a node lie on one side of any two other rays. If a turning ray meets nothing between them,
-- it meets both or neither between the two others.
use Rattle.std.proofs.Common.{◌≡◌, Bool, true, false, refl, sym}
use Rattle.overlay_geom.specs.Plane.{Point}
use Rattle.overlay_plane.specs.Turn.{Hand, is_met_before, IsMetBefore}
use Rattle.overlay_plane.specs.Turn.Hand.{left, right}
use Rattle.overlay_plane.specs.Rays.{Apart}
use Rattle.overlay_plane.proofs.CyclicOrder.{AllApart, met_shifted, met_by_other, met_after, not_both}
use Rattle.overlay_plane.proofs.Tests.{same_tests}
use Rattle.overlay_plane.proofs.TurnOrder.{apart_exchanged, met_transitive}

-- four rays of different directions
pub record FourApart (v a b p q : Point) : Type 0 where
  pub ab : Apart v a b
  pub ap : Apart v a p
  pub aq : Apart v a q
  pub bp : Apart v b p
  pub bq : Apart v b q
  pub pq : Apart v p q

-- the first two exchanged
exchanged : (v a b p q : Point) → FourApart v a b p q → FourApart v b a p q
exchanged v a b p q h = record {
  ab = apart_exchanged v a b h.ab;
  ap = h.bp;
  aq = h.bq;
  bp = h.ap;
  bq = h.aq;
  pq = h.pq;
}

module _ (v a b p q : Point) (h : FourApart v a b p q) where
  -- three of them
  abp : AllApart v a b p
  abp = record { one = h.ab; two = h.bp; three = apart_exchanged v a p h.ap }

  abq : AllApart v a b q
  abq = record { one = h.ab; two = h.bq; three = apart_exchanged v a q h.aq }

  paq : AllApart v p a q
  paq = record { one = apart_exchanged v a p h.ap; two = h.aq; three = apart_exchanged v p q h.pq }

  pqb : AllApart v p q b
  pqb = record { one = h.pq; two = apart_exchanged v b q h.bq; three = h.bp }

  -- a point met third from one is met first from the third
  twice : (x y z : Point) → AllApart v x y z → IsMetBefore right v x y z → IsMetBefore right v z x y
  twice x y z all met = met_shifted right v y z x (record { one = all.two; two = all.three; three = all.one })
      (met_shifted right v x y z all met)

  -- from a the ray meets b before p and before q: so a and b are met alike from p
  met_alike : IsMetBefore right v a b p → IsMetBefore right v a b q →
      is_met_before right v p a q ≡ is_met_before right v p b q
  met_alike to_p to_q = same_tests (is_met_before right v p a q) (is_met_before right v p b q) forth back
    where
      forth : IsMetBefore right v p a q → IsMetBefore right v p b q
      forth first = by (is_met_before right v p b q) refl
        where
          against : IsMetBefore right v p q b → ⊥
          against late = not_both right v q a p h.pq.second
              (met_transitive right v q a b p h.pq.second (twice a b q abq to_q) (met_shifted right v p q b pqb late))
              (twice p a q paq first)

          by : (t : Bool) → is_met_before right v p b q ≡ t → is_met_before right v p b q ≡ true
          by true is = is
          by false is = absurd (against (met_after right v p b q h.pq.first h.bq is))

      back : IsMetBefore right v p b q → IsMetBefore right v p a q
      back first = met_transitive right v p a b q h.pq.first (twice a b p abp to_p) first

-- by a hand nothing is met between a and b: so they are met alike from p
pub neighbours_alike : (hand : Hand) (v a b p q : Point) → FourApart v a b p q →
    is_met_before hand v a p b ≡ false → is_met_before hand v a q b ≡ false →
    is_met_before right v p a q ≡ is_met_before right v p b q
neighbours_alike right v a b p q h to_p to_q = met_alike v a b p q h
    (met_after right v a p b h.ab.first (apart_exchanged v b p h.bp) to_p)
    (met_after right v a q b h.ab.first (apart_exchanged v b q h.bq) to_q)
neighbours_alike left v a b p q h to_p to_q = sym (met_alike v b a p q (exchanged v a b p q h)
    (other p h.ap h.bp to_p) (other q h.aq h.bq to_q))
  where
    other : (r : Point) → Apart v a r → Apart v b r → is_met_before left v a r b ≡ false → IsMetBefore right v b a r
    other r ar br to_r = twice v a b p q h a r b
        (record { one = ar; two = apart_exchanged v b r br; three = apart_exchanged v a b h.ab })
        (met_by_other left v a b r (record { one = h.ab; two = br; three = apart_exchanged v a r ar })
        (met_after left v a r b h.ab.first (apart_exchanged v b r br) to_r))
