-- A winding as a sum over the edges one by one, at most as far from 0 as their weight.
use Rattle.std.proofs.Common.{◌≡◌, ℕ, ◌+◌, ◌<◌, Bool, true, false, cond, ℤ, pos, negsuc, ◌+ℤ◌, List, map, take, get_or}
use Rattle.std.proofs.Common.{length, sym, ap, ap₂, ◌∙◌, arith}
use Rattle.std.specs.Prelude.{nat_abs}
use Rattle.std.proofs.lemmas.Int.{ints}
use Rattle.std.proofs.lemmas.List.{take-map}
use Rattle.std.proofs.lemmas.List.Sums.{sum_by-take-le}
use lib.IntN.{+ℤ_idr}
use Rattle.overlay_geom.specs.Numbers.{Within}
use Rattle.overlay_geom.specs.Plane.{PlanePoint, is_strictly_below}
use Rattle.overlay_geom.specs.Edges.{CountedEdge, ends_of, subj_of, clip_of, weight, winding_by}
use Rattle.overlay_geom.proofs.Totals.{total-more, total-within}
use Rattle.overlay_geom.proofs.Weights.{edge_weight}

-- a count that the weight of each edge bounds: the subject's or the clip's
pub record IsWeighed (count : CountedEdge → ℤ) : Type 0 where
  pub within : (e : CountedEdge) → Within (edge_weight e) (count e)

-- a number is as far from 0 as its absolute value
pub within_abs : (z : ℤ) → Within (nat_abs z) z
within_abs (pos n) = record { low = omega (arith, ints); high = omega (arith, ints) }
within_abs (negsuc n) = record { low = omega (arith, ints); high = omega (arith, ints) }

-- the count of the subject is within the weight
pub subj_weighed : IsWeighed subj_of
subj_weighed = record {
  within = λ e. let near = within_abs e.counts.subj in
      record { low = omega (arith, ints); high = omega (arith, ints) };
}

-- the count of the clip is at most the weight
pub clip_weighed : IsWeighed clip_of
clip_weighed = record {
  within = λ e. let near = within_abs e.counts.clip in
      record { low = omega (arith, ints); high = omega (arith, ints) };
}

-- a winding is at most as far from 0 as the weight
pub winding_by-within : (count : CountedEdge → ℤ) → IsWeighed count → (es : List CountedEdge) (p : PlanePoint) →
    Within (weight es) (winding_by count es p)
winding_by-within count weighed es p = total-within (λ e. cond (is_strictly_below (ends_of e) p) (count e) (pos 0))
    edge_weight (λ e. counted_or_not (is_strictly_below (ends_of e) p) (edge_weight e) (count e) (weighed.within e)) es
  where
    counted_or_not : (b : Bool) (n : ℕ) (z : ℤ) → Within n z → Within n (cond b z (pos 0))
    counted_or_not true n z h = h
    counted_or_not false n z h = record { low = omega (arith, ints); high = omega (arith, ints) }

-- in a light list it is within the limit of the weight
pub winding_by-light : (count : CountedEdge → ℤ) → IsWeighed count →
    (es : List CountedEdge) (p : PlanePoint) (m : ℕ) (w : ℤ) → weight es < m → w ≡ winding_by count es p → Within m w
winding_by-light count weighed es p m w light e =
    let within = winding_by-within count weighed es p in
    record { low = omega (arith, ints); high = omega (arith, ints) }

-- the winding at the front of a list is within the weight of the list
pub winding_by-front : {X : Type 0} (count : CountedEdge → ℤ) → IsWeighed count →
    (h : X → CountedEdge) (xs : List X) (i : ℕ) (p : PlanePoint) (m : ℕ) (w : ℤ) → weight (map h xs) < m →
    w ≡ winding_by count (map h (take i xs)) p → Within m w
winding_by-front count weighed h xs i p m w light e =
    let part = sum_by-take-le edge_weight (map h xs) i in
    let lighter : weight (map h (take i xs)) < m = rw (← take-map h i xs) (omega arith) in
    winding_by-light count weighed (map h (take i xs)) p m w lighter e

-- an edge strictly below the point adds its count
pub winding_by-counted : {X : Type 0} (count : CountedEdge → ℤ) (h : X → CountedEdge) (xs : List X) (i : ℕ) (x : X)
    (p : PlanePoint) (old new : ℤ) → i < length xs → x ≡ get_or xs i x → is_strictly_below (ends_of (h x)) p ≡ true →
    old ≡ winding_by count (map h (take i xs)) p → new ≡ old +ℤ count (h x) →
    new ≡ winding_by count (map h (take (i + 1) xs)) p
winding_by-counted count h xs i x p old new lt is below so_far one_more =
    one_more
    ∙ ap₂ (λ y z. y +ℤ z) so_far (sym (ap (λ b. cond b (count (h x)) (pos 0)) below))
    ∙ sym (total-more (λ e. cond (is_strictly_below (ends_of e) p) (count e) (pos 0)) h xs i x lt is)

-- another edge adds nothing
pub winding_by-passed : {X : Type 0} (count : CountedEdge → ℤ) (h : X → CountedEdge) (xs : List X) (i : ℕ) (x : X)
    (p : PlanePoint) (old new : ℤ) → i < length xs → x ≡ get_or xs i x → is_strictly_below (ends_of (h x)) p ≡ false →
    old ≡ winding_by count (map h (take i xs)) p → new ≡ old → new ≡ winding_by count (map h (take (i + 1) xs)) p
winding_by-passed count h xs i x p old new lt is not_below so_far same =
    same
    ∙ so_far
    ∙ sym (+ℤ_idr (winding_by count (map h (take i xs)) p))
    ∙ ap (λ z. winding_by count (map h (take i xs)) p +ℤ z) (sym (ap (λ b. cond b (count (h x)) (pos 0)) not_below))
    ∙ sym (total-more (λ e. cond (is_strictly_below (ends_of e) p) (count e) (pos 0)) h xs i x lt is)
