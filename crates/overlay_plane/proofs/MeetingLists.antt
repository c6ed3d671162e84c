-- The points in which two edges meet as a list, and the whole points through which they lead an edge.
use Rattle.std.specs.Prelude.{◌≡◌, ◌⊎◌, List, All, Any, Contains}
use Rattle.overlay_geom.specs.Plane.{Point, PlanePoint, Edge, SamePlace}
use Rattle.overlay_geom.specs.Rounding.{nearest_point}
use Rattle.overlay_plane.specs.Meetings.{IsMeetingPoint}

-- the points are the meeting points of the two edges
pub record AreMeetings (e f : Edge) (ps : List PlanePoint) : Type 0 where
  pub only : All (IsMeetingPoint e f) ps
  pub every : (p : PlanePoint) → IsMeetingPoint e f p → Any (SamePlace p) ps

-- but for e's ends, the whole points are those nearest the points of the plane
pub record AreNearest (e : Edge) (ps : List PlanePoint) (vs : List Point) : Type 0 where
  pub from : All (λ p. (nearest_point p ≡ e.a) ⊎ ((nearest_point p ≡ e.b) ⊎ Contains vs (nearest_point p))) ps
  pub to : All (λ v. (v ≡ e.a) ⊎ ((v ≡ e.b) ⊎ Any (λ p. v ≡ nearest_point p) ps)) vs
