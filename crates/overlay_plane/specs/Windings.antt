-- Sums of counts over the edges under an edge: they are constant along it, the winding below it.
use Rattle.std.specs.Prelude.{◌≡◌, true, cond, ◌&&◌, ℤ, pos, ◌<ℤ◌, List, Contains}
use Rattle.overlay_geom.specs.Plane.{PlanePoint, Edge, side, total}
use Rattle.overlay_geom.specs.Edges.{CountedEdge, ends_of, winding_by, winding_below}
use Rattle.overlay_geom.specs.Settled.{IsSettled}
use Rattle.overlay_plane.specs.Heights.{covers, is_under, IsInner}
use Rattle.overlay_plane.specs.EdgeLists.{IsForwardBy, IsBalanced}

-- the sum of the counts of the edges under e that cover the x-coordinate
abbrev pub total_under : {X : Type 0} → (X → Edge) → (X → ℤ) → List X → Edge → ℤ → ℤ → ℤ
total_under ends count xs e x d = total (λ f. cond (covers (ends f) x d && is_under (ends f) e x d) (count f) (pos 0))
    xs

-- in a settled list with balanced counts, the counts of the edges under an edge have one sum at every x-coordinate that
-- it covers: the winding below it
abbrev pub OneWindingAlongASide : Type 0
OneWindingAlongASide = (es : List CountedEdge) (count : CountedEdge → ℤ) → IsForwardBy ends_of es → IsSettled es →
    IsBalanced ends_of count es → (e : CountedEdge) → Contains es e → (x d : ℤ) → pos 0 <ℤ d →
    covers (ends_of e) x d ≡ true →
    total_under ends_of count es (ends_of e) x d ≡ winding_below count es e

-- the winding at an inner point of an edge that is not vertical is the winding below the edge
abbrev pub OneWindingAtInnerPoints : Type 0
OneWindingAtInnerPoints = (es : List CountedEdge) (count : CountedEdge → ℤ) → IsForwardBy ends_of es → IsSettled es →
    IsBalanced ends_of count es → (e : CountedEdge) → Contains es e → (p : PlanePoint) → side (ends_of e) p ≡ pos 0 →
    IsInner (ends_of e) p.x p.d → winding_by count es p ≡ winding_below count es e
