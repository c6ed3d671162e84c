-- Edges over an x-coordinate that are taken with all under them are the greatest of them and all under it. So their
-- counts add up to the winding above that edge.
use Rattle.std.proofs.Common.{◌≡◌, ◌⊎◌, ⊎_elim, Bool, true, false, cond, ◌&&◌, ℤ, pos, ◌+ℤ◌, ◌<ℤ◌, List, Contains, refl}
use Rattle.std.proofs.Common.{sym, ap, ap₂, ◌∙◌, subst}
use Rattle.std.proofs.lemmas.Bool.{both_ways, and_parts, and_from, false_from_ne_true}
use lib.IntN.{+ℤ_idl, +ℤ_idr}
use Rattle.overlay_geom.specs.Plane.{Edge, edge_eq}
use Rattle.overlay_geom.specs.Edges.{CountedEdge, ends_of, winding_above}
use Rattle.overlay_geom.proofs.Orders.{edge_eq-same, edge_eq-from_ends}
use Rattle.overlay_plane.specs.Heights.{covers, is_under}
use Rattle.overlay_plane.specs.Nodes.{IsBalancedArrangement}
use Rattle.overlay_plane.specs.Regions.{TakesDownward, total_taken}
use Rattle.overlay_plane.proofs.Tests.{same_tests}
use Rattle.overlay_plane.proofs.Totals.{total-same, total-add}
use Rattle.overlay_plane.proofs.Under.{under_irreflexive}
use Rattle.overlay_plane.proofs.Sides.{one_winding_along_a_side}
use Rattle.overlay_plane.proofs.SingleEntries.{one_entry, single_total}

-- g is taken, and every other edge taken is under it
pub record IsGreatestTaken (es : List CountedEdge) (x d : ℤ) (taken : CountedEdge → Bool)
    (g : CountedEdge) : Type 0 where
  pub entry : Contains es g
  pub is : taken g ≡ true
  pub greatest : (f : CountedEdge) → Contains es f → taken f ≡ true →
      (f ≡ g) ⊎ (is_under (ends_of f) (ends_of g) x d ≡ true)

module _ (count : CountedEdge → ℤ) (es : List CountedEdge) (r : IsBalancedArrangement count es) (x d : ℤ)
    (positive : pos 0 <ℤ d)
    (taken : CountedEdge → Bool) (down : TakesDownward ends_of es x d taken) (g : CountedEdge)
    (h : IsGreatestTaken es x d taken g) where
  -- the edge covers the x-coordinate, and is under g there
  abbrev under_greatest : CountedEdge → Bool
  under_greatest f = covers (ends_of f) x d && is_under (ends_of f) (ends_of g) x d

  -- an edge with the ends of g is not under it
  same_not_under : (f : CountedEdge) → edge_eq (ends_of f) (ends_of g) ≡ true → under_greatest f ≡ false
  same_not_under f same = false_from_ne_true (under_greatest f)
      (λ t. both_ways (is_under (ends_of f) (ends_of g) x d)
      (subst (λ (e : Edge). is_under e (ends_of g) x d ≡ false) (sym (edge_eq-same (ends_of f) (ends_of g) same))
      (under_irreflexive (ends_of g) x d))
      (and_parts (covers (ends_of f) x d) (is_under (ends_of f) (ends_of g) x d) t).1)

  -- another edge is taken exactly where it is under g
  other_taken : (f : CountedEdge) → Contains es f → edge_eq (ends_of f) (ends_of g) ≡ false → taken f ≡ under_greatest f
  other_taken f at apart = same_tests (taken f) (under_greatest f)
      (λ is. ⊎_elim
      (λ one. absurd (both_ways (edge_eq (ends_of f) (ends_of g)) apart
      (edge_eq-from_ends (ends_of f) (ends_of g) (ap (λ (e : CountedEdge). e.a) one)
      (ap (λ (e : CountedEdge). e.b) one))))
      (λ under. and_from (covers (ends_of f) x d) (is_under (ends_of f) (ends_of g) x d) (down.over f at is) under)
      (h.greatest f at is))
      (λ t. let both = and_parts (covers (ends_of f) x d) (is_under (ends_of f) (ends_of g) x d) t in
      down.downward g f h.entry at h.is both.0 both.1)

  -- the edges taken are g and the edges under it
  counted_taken : (f : CountedEdge) → Contains es f → cond (taken f) (count f) (pos 0) ≡
      cond (under_greatest f) (count f) (pos 0) +ℤ cond (edge_eq (ends_of f) (ends_of g)) (count f) (pos 0)
  counted_taken f at = by (edge_eq (ends_of f) (ends_of g)) refl
    where
      one : edge_eq (ends_of f) (ends_of g) ≡ true → taken f ≡ true
      one same = subst (λ (e : CountedEdge). taken e ≡ true) (sym (one_entry es r.planar.distinct f g at h.entry same))
          h.is

      by : (t : Bool) → edge_eq (ends_of f) (ends_of g) ≡ t → cond (taken f) (count f) (pos 0) ≡
          cond (under_greatest f) (count f) (pos 0) +ℤ cond t (count f) (pos 0)
      by true same = ap (λ t. cond t (count f) (pos 0)) (one same)
          ∙ sym (+ℤ_idl (count f)) ∙ sym (ap (λ t. cond t (count f) (pos 0) +ℤ count f) (same_not_under f same))
      by false apart = ap (λ t. cond t (count f) (pos 0)) (other_taken f at apart)
          ∙ sym (+ℤ_idr (cond (under_greatest f) (count f) (pos 0)))

  pub above_the_greatest_taken : total_taken taken count es ≡ winding_above count es g
  above_the_greatest_taken = total-same (λ f. cond (taken f) (count f) (pos 0))
      (λ f. cond (under_greatest f) (count f) (pos 0) +ℤ cond (edge_eq (ends_of f) (ends_of g)) (count f) (pos 0)) es
      counted_taken
      ∙ total-add (λ f. cond (under_greatest f) (count f) (pos 0))
      (λ f. cond (edge_eq (ends_of f) (ends_of g)) (count f) (pos 0)) es
      ∙ ap₂ (λ v w. v +ℤ w) (one_winding_along_a_side es count r.planar.forward r.planar.settled r.balanced g h.entry x
      d positive
      (down.over g h.entry h.is))
      (single_total es r.planar.distinct count g h.entry)
