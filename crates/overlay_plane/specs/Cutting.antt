-- Edges cut into the pieces of a chain through whole points. This keeps balance, and also windings where the points lie
-- on the edges' lines.
use Rattle.std.specs.Prelude.{◌≡◌, true, cond, pos, List, [], ◌∷◌, ◌++◌, map, flat_map, All}
use Rattle.overlay_geom.specs.Counts.{reversed_counts}
use Rattle.overlay_geom.specs.Plane.{Point, PlanePoint, Step, Edge, point_lt, side, in_plane, edge_of, is_forward}
use Rattle.overlay_geom.specs.Plane.{steps_between, steps_through, winding}
use Rattle.overlay_geom.specs.Edges.{CountedEdge, ends_of}
use Rattle.overlay_geom.specs.Merged.{HaveSameWindings}
use Rattle.overlay_plane.specs.EdgeLists.{IsForwardBy}
use Rattle.overlay_plane.specs.Balance.{HasBalancedCounts}

-- the steps from an edge's smaller to its larger end, through points on its line, have the windings of the straight
-- step
abbrev pub CuttingOnALineKeepsWindings : Type 0
CuttingOnALineKeepsWindings = (e : Edge) → point_lt e.a e.b ≡ true →
    (vs : List Point) → All (λ v. side e (in_plane v) ≡ pos 0) vs →
    (p : PlanePoint) → winding (steps_through e.a (vs ++ e.b ∷ [])) p ≡ winding (steps_between e.a e.b) p

-- the part of an edge along a step of its chain: its counts, reversed where the step leads back
abbrev pub piece_along : CountedEdge → Step → CountedEdge
piece_along e s = record {
  a = (edge_of s).a;
  b = (edge_of s).b;
  counts = cond (is_forward s) e.counts (reversed_counts e.counts);
}

-- the parts of an edge along the steps from its smaller end to its larger one through the points
abbrev pub pieces_through : (CountedEdge → List Point) → CountedEdge → List CountedEdge
pieces_through points e = map (piece_along e) (steps_through e.a (points e ++ e.b ∷ []))

-- a list whose edges are cut through any points keeps balanced counts
abbrev pub CuttingKeepsBalance : Type 0
CuttingKeepsBalance = (es : List CountedEdge) (points : CountedEdge → List Point) → HasBalancedCounts es →
    HasBalancedCounts (flat_map (pieces_through points) es)

-- the points through which an edge is cut lie on its line
abbrev pub AreOnLine : (CountedEdge → List Point) → CountedEdge → Type 0
AreOnLine points e = All (λ v. side (ends_of e) (in_plane v) ≡ pos 0) (points e)

-- a list whose edges are cut through points on their lines keeps its windings
abbrev pub CuttingOnLinesKeepsWindings : Type 0
CuttingOnLinesKeepsWindings = (es : List CountedEdge) (points : CountedEdge → List Point) → IsForwardBy ends_of es →
    All (AreOnLine points) es →
    HaveSameWindings es (flat_map (pieces_through points) es)
