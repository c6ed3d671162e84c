-- A shape of an arrangement: which edges bound it, and where points lie in it.
use Rattle.std.specs.Prelude.{◌≡◌, Bool, ℤ, List, filter}
use Rattle.overlay_geom.specs.Plane.{PlanePoint, Edge}
use Rattle.overlay_geom.specs.Edges.{CountedEdge, all_ends, subj_of}
use Rattle.overlay_plane.specs.Predicates.{fills_at, fills_above, fills_below, IsFillable}
use Rattle.overlay_relate.specs.Locations.{differ, IsLocated}
use Rattle.overlay_relate.specs.declared.location.PointLocation.{PointLocation}

-- the shape fills exactly one side of the edge
abbrev pub is_bounding : (ℤ → Bool) → List CountedEdge → CountedEdge → Bool
is_bounding filled es e = differ (fills_above filled es subj_of e) (fills_below filled es subj_of e)

-- the edges of which it fills exactly one side
abbrev pub boundary_of : (ℤ → Bool) → List CountedEdge → List Edge
boundary_of filled es = all_ends (filter (is_bounding filled es) es)

-- where p lies in the shape of an arrangement: on an edge of its boundary, or else inside or outside, by whether it
-- fills the winding that is counted along a ray from p
abbrev pub IsLocatedUnder : (ℤ → Bool) → List CountedEdge → PlanePoint → PointLocation → Type 0
IsLocatedUnder filled es p l = IsLocated (boundary_of filled es) (fills_at filled es subj_of p) p l

-- these edges are the boundary of the shape of a planar list with balanced counts
pub record Bounds (filled : ℤ → Bool) (es : List CountedEdge) (boundary : List Edge) : Type 0 where
  pub fillable : IsFillable filled es
  pub are : boundary ≡ boundary_of filled es

-- whichever shape the edges bound, p lies so in it
abbrev pub LiesSo : List Edge → PlanePoint → PointLocation → Type 0
LiesSo boundary p l = (filled : ℤ → Bool) (es : List CountedEdge) → Bounds filled es boundary →
    IsLocatedUnder filled es p l
