-- Odd windings: each edge strictly below a point turns the parity of the winding there.
use Rattle.std.proofs.Common.{◌≡◌, Bool, true, false, not, cond, ℤ, pos, negsuc, ◌+ℤ◌, List, [], ◌∷◌, map, refl, ap}
use Rattle.std.proofs.Common.{◌∙◌, arith}
use Rattle.std.proofs.lemmas.Int.{ints}
use Rattle.overlay_geom.specs.Plane.{PlanePoint, Step, edge_of, is_forward, is_strictly_below, winding}
use Rattle.overlay_relate.specs.Locations.{differ, is_odd, odd_below}

pub differ-assoc : (r s t : Bool) → differ r (differ s t) ≡ differ (differ r s) t
differ-assoc true true true = refl
differ-assoc true true false = refl
differ-assoc true false true = refl
differ-assoc true false false = refl
differ-assoc false s t = refl

pub differ-false : (t : Bool) → differ t false ≡ t
differ-false true = refl
differ-false false = refl

-- 1 more, or 1 less, turns the parity
odd_more : (w : ℤ) → is_odd (pos 1 +ℤ w) ≡ not (is_odd w)
odd_more w = grind (arith, ints)

odd_less : (w : ℤ) → is_odd (negsuc 0 +ℤ w) ≡ not (is_odd w)
odd_less w = grind (arith, ints)

odd_same : (w : ℤ) → is_odd (pos 0 +ℤ w) ≡ is_odd w
odd_same w = grind (arith, ints)

odd_step : (below forward : Bool) (w : ℤ) → is_odd (cond below (cond forward (pos 1) (negsuc 0)) (pos 0) +ℤ w) ≡ differ
    below (is_odd w)
odd_step true true w = odd_more w
odd_step true false w = odd_less w
odd_step false forward w = odd_same w

-- the winding is odd where an odd number of the steps' edges are strictly below
pub odd_winding : (ss : List Step) (p : PlanePoint) → is_odd (winding ss p) ≡ odd_below (map edge_of ss) p
odd_winding [] p = refl
odd_winding (s ∷ ss) p = odd_step (is_strictly_below (edge_of s) p) (is_forward s) (winding ss p)
    ∙ ap (differ (is_strictly_below (edge_of s) p)) (odd_winding ss p)
