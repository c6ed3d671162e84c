-- The winding of a sector as a sum over the edges one by one, at most as far from 0 as their weight.
use Rattle.std.proofs.Common.{◌≡◌, ℕ, ◌<◌, Bool, true, false, cond, ℤ, pos, List, take, arith}
use Rattle.std.proofs.lemmas.Int.{ints}
use Rattle.std.proofs.lemmas.List.Sums.{sum_by-take-le}
use Rattle.overlay_geom.specs.Edges.{CountedEdge, ends_of, subj_of, weight}
use Rattle.overlay_geom.specs.Numbers.{Within}
use Rattle.overlay_geom.specs.Plane.{PlanePoint, Edge}
use Rattle.overlay_geom.proofs.Totals.{total-within}
use Rattle.overlay_geom.proofs.Weights.{edge_weight}
use Rattle.overlay_geom.proofs.WindingSums.{subj_weighed}
use Rattle.overlay_sectors.specs.Sectors.{is_below_near, winding_near}
use Rattle.overlay_sectors.specs.declared.flank.Flank.{Flank}

counted_or_not : (b : Bool) (n : ℕ) (z : ℤ) → Within n z → Within n (cond b z (pos 0))
counted_or_not true n z h = h
counted_or_not false n z h = record { low = omega (arith, ints); high = omega (arith, ints) }

module _ (h : Flank) (p : PlanePoint) (low : Edge → Bool) where
  abbrev counted : CountedEdge → ℤ
  counted e = cond (is_below_near h (ends_of e) p (low (ends_of e))) (subj_of e) (pos 0)

  near_within : (es : List CountedEdge) → Within (weight es) (winding_near h subj_of es p low)
  near_within es = total-within counted edge_weight
      (λ e. counted_or_not (is_below_near h (ends_of e) p (low (ends_of e))) (edge_weight e) (subj_of e)
      (subj_weighed.within e)) es

  -- the sum at the front of a light list
  pub near_first : (es : List CountedEdge) (i : ℕ) (m : ℕ) (w : ℤ) → weight es < m →
      w ≡ winding_near h subj_of (take i es) p low → Within m w
  near_first es i m w light is =
      let part = sum_by-take-le edge_weight es i in
      let within = near_within (take i es) in
      record { low = omega (arith, ints); high = omega (arith, ints) }
