-- The greatest edge strictly below a point, and the winding at the point, which is the winding above that edge.
use Rattle.std.specs.Prelude.{◌≡◌, ◌⊎◌, true, false, ℤ, pos, List, Contains}
use Rattle.overlay_geom.specs.Plane.{PlanePoint, is_strictly_below}
use Rattle.overlay_geom.specs.Edges.{CountedEdge, ends_of, winding_by, winding_above}
use Rattle.overlay_plane.specs.Heights.{is_under}
use Rattle.overlay_plane.specs.Nodes.{IsBalancedArrangement}

-- the edge is strictly below p, and every other edge strictly below p is under it at the x-coordinate of p
pub record IsGreatestBelow (es : List CountedEdge) (p : PlanePoint) (g : CountedEdge) : Type 0 where
  pub entry : Contains es g
  pub below : is_strictly_below (ends_of g) p ≡ true
  pub greatest : (f : CountedEdge) → Contains es f → is_strictly_below (ends_of f) p ≡ true →
      (f ≡ g) ⊎ (is_under (ends_of f) (ends_of g) p.x p.d ≡ true)

-- the winding at a point is the winding above the greatest edge strictly below it, and 0 where no edge is strictly
-- below it
pub record WindingAboveTheGreatestBelow : Type 0 where
  pub above : (count : CountedEdge → ℤ) (es : List CountedEdge) → IsBalancedArrangement count es →
      (p : PlanePoint) (g : CountedEdge) →
      IsGreatestBelow es p g → winding_by count es p ≡ winding_above count es g
  pub none : (count : CountedEdge → ℤ) (es : List CountedEdge) (p : PlanePoint) →
      ((f : CountedEdge) → Contains es f → is_strictly_below (ends_of f) p ≡ false) → winding_by count es p ≡ pos 0
