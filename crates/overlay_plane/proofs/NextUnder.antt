-- The edges under an edge are the greatest such edge and all under it. So the winding below the edge is the winding
-- above that edge.
use Rattle.std.proofs.Common.{◌≡◌, ◌⊎◌, Bool, true, false, cond, ◌&&◌, ℤ, pos, ◌<ℤ◌, List, Contains, sym, ap, ◌∙◌}
use Rattle.std.proofs.lemmas.Bool.{and_parts, and_from, false≢true, false_from_ne_true}
use Rattle.overlay_geom.specs.Plane.{Edge}
use Rattle.overlay_geom.specs.Edges.{CountedEdge, ends_of, winding_below, winding_above}
use Rattle.overlay_plane.specs.Heights.{covers, is_under}
use Rattle.overlay_plane.specs.Nodes.{IsBalancedArrangement}
use Rattle.overlay_plane.proofs.GreatestTaken.{above_the_greatest_taken}
use Rattle.overlay_plane.proofs.RegionBelow.{takes_under}
use Rattle.overlay_plane.proofs.Totals.{total-zero}
use Rattle.overlay_plane.proofs.Sides.{one_winding_along_a_side}

-- g covers the x-coordinate under e, and all others of the list that do so are under g there
pub record IsGreatestUnderIn (es : List CountedEdge) (e : Edge) (x d : ℤ) (g : CountedEdge) : Type 0 where
  pub entry : Contains es g
  pub over : covers (ends_of g) x d ≡ true
  pub under : is_under (ends_of g) e x d ≡ true
  pub greatest : (f : CountedEdge) → Contains es f → covers (ends_of f) x d ≡ true → is_under (ends_of f) e x d ≡ true →
      (f ≡ g) ⊎ (is_under (ends_of f) (ends_of g) x d ≡ true)

module _ (count : CountedEdge → ℤ) (es : List CountedEdge) (r : IsBalancedArrangement count es) (e : CountedEdge)
    (at_e : Contains es e) (x d : ℤ)
    (positive : pos 0 <ℤ d) (over_e : covers (ends_of e) x d ≡ true) where
  -- the edge covers the x-coordinate, and is under e there
  abbrev is_under_it : CountedEdge → Bool
  is_under_it f = covers (ends_of f) x d && is_under (ends_of f) (ends_of e) x d

  -- the winding below the edge is that above the greatest edge under it
  pub above_the_greatest_under : (g : CountedEdge) → IsGreatestUnderIn es (ends_of e) x d g →
      winding_below count es e ≡ winding_above count es g
  above_the_greatest_under g h =
      sym (one_winding_along_a_side es count r.planar.forward r.planar.settled r.balanced e at_e x d positive over_e)
      ∙ above_the_greatest_taken count es r x d positive is_under_it
      (takes_under ends_of es (ends_of e) x d positive over_e) g (record {
        entry = h.entry;
        is = and_from (covers (ends_of g) x d) (is_under (ends_of g) (ends_of e) x d) h.over h.under;
        greatest = λ f at t. let both = and_parts (covers (ends_of f) x d) (is_under (ends_of f) (ends_of e) x d) t in
            h.greatest f at both.0 both.1;
      })

  -- the winding is 0 where no edge is under it
  pub nothing_under : ((f : CountedEdge) → Contains es f → covers (ends_of f) x d ≡ true →
      is_under (ends_of f) (ends_of e) x d ≡ false) →
      winding_below count es e ≡ pos 0
  nothing_under none =
      sym (one_winding_along_a_side es count r.planar.forward r.planar.settled r.balanced e at_e x d positive over_e)
      ∙ total-zero (λ f. cond (is_under_it f) (count f) (pos 0)) es (λ f at. ap (λ t. cond t (count f) (pos 0))
      (false_from_ne_true (is_under_it f)
      (λ t. let both = and_parts (covers (ends_of f) x d) (is_under (ends_of f) (ends_of e) x d) t in
      false≢true (sym (none f at both.0) ∙ both.1))))
