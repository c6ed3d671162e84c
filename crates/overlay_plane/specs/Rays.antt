-- Rays round a point: different directions, and the laws of the cyclic order in which a turning ray meets them, by
-- either hand.
use Rattle.std.specs.Prelude.{◌≡◌, ◌⊎◌, false}
use Rattle.overlay_geom.specs.Plane.{Point}
use Rattle.overlay_plane.specs.Turn.{Hand, other_hand, is_met_before, IsMetBefore}
use Rattle.overlay_plane.specs.Alternates.{AreOneWay}

-- the two points differ from v, and lie in different directions from v
pub record Apart (v p q : Point) : Type 0 where
  pub first : ¬ (p ≡ v)
  pub second : ¬ (q ≡ v)
  pub other_ways : ¬ (AreOneWay v p q)

-- by the hand, rays round a point are met in a strict order, total on different directions. The other hand reverses it,
-- and it does not depend on where the turn starts
pub record IsCyclicOrder (hand : Hand) : Type 0 where
  pub irreflexive : (v u p : Point) → is_met_before hand v u p p ≡ false
  pub asymmetric : (v u p q : Point) → ¬ (u ≡ v) → IsMetBefore hand v u p q → is_met_before hand v u q p ≡ false
  pub transitive : (v u p q r : Point) → ¬ (u ≡ v) → IsMetBefore hand v u p q → IsMetBefore hand v u q r →
      IsMetBefore hand v u p r
  pub total : (v u p q : Point) → ¬ (u ≡ v) → Apart v p q → IsMetBefore hand v u p q ⊎ IsMetBefore hand v u q p
  pub reversed : (v u p q : Point) → Apart v u p → Apart v u q →
      is_met_before (other_hand hand) v u q p ≡ is_met_before hand v u p q
  pub shifted : (v p m q : Point) → Apart v p m → Apart v m q → Apart v q p → IsMetBefore hand v p m q →
      IsMetBefore hand v m q p

abbrev pub RaysInCyclicOrder : Type 0
RaysInCyclicOrder = (hand : Hand) → IsCyclicOrder hand
