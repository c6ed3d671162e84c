-- Half planes with an upright or a level border at a whole number: edges in them stay in them as they are cut.
use Rattle.std.specs.Prelude.{◌≡◌, ℤ, pos, ◌*ℤ◌, ◌<ℤ◌, ◌≤ℤ◌, List, All}
use Rattle.overlay_geom.specs.Plane.{Point, PlanePoint, Step}
use Rattle.overlay_geom.specs.Edges.{CountedEdge, ends_of, winding_by}
use Rattle.overlay_geom.specs.declared.solver.Solver.{Solver}
use Rattle.overlay_plane.specs.Arrangements.{IsReachedBy}
use Rattle.overlay_plane.specs.ChainLinks.{chain_through}
use Rattle.overlay_plane.specs.EdgeLists.{IsBalanced, IsForwardBy}
use Rattle.overlay_plane.specs.RoundLists.{AreRounds}
use Rattle.overlay_plane.specs.Rounds.{Round}

-- the points on one side of an upright or a level line, and on the line
pub data HalfPlane : Type 0 where
  left_of : ℤ → HalfPlane
  right_of : ℤ → HalfPlane
  below : ℤ → HalfPlane
  above : ℤ → HalfPlane

-- the point is in the half plane
abbrev pub IsInHalf : HalfPlane → Point → Type 0
IsInHalf (left_of c) v = v.x ≤ℤ c
IsInHalf (right_of c) v = c ≤ℤ v.x
IsInHalf (below c) v = v.y ≤ℤ c
IsInHalf (above c) v = c ≤ℤ v.y

-- both ends of the step are in the half plane
abbrev pub IsStepInHalf : HalfPlane → Step → Type 0
IsStepInHalf h s = IsInHalf h s.from × IsInHalf h s.to

-- both ends of the edge are in the half plane
abbrev pub IsEdgeInHalf : HalfPlane → CountedEdge → Type 0
IsEdgeInHalf h e = IsInHalf h e.a × IsInHalf h e.b

-- ---- laws

-- the chain of an edge in a half plane stays in it, so the chain of an upright or a level edge stays on its line
abbrev pub ChainsStayInHalfPlanes : Type 0
ChainsStayInHalfPlanes = (solver : Solver) (rounds : List Round) (old : List CountedEdge) →
    AreRounds solver old rounds → (h : HalfPlane) (e : CountedEdge) → IsEdgeInHalf h e →
    All (IsStepInHalf h) (chain_through rounds e)

-- an arrangement of edges in a half plane stays in it, so none of its points lies outside their bounding box
abbrev pub ArrangementsStayInHalfPlanes : Type 0
ArrangementsStayInHalfPlanes = (solver : Solver) (rounds : List Round) (old new : List CountedEdge) →
    IsReachedBy solver rounds old new → (h : HalfPlane) → All (IsEdgeInHalf h) old → All (IsEdgeInHalf h) new

-- p lies beyond the half plane's border
abbrev pub IsBeyond : HalfPlane → PlanePoint → Type 0
IsBeyond (left_of c) p = (c *ℤ p.d) <ℤ p.x
IsBeyond (right_of c) p = p.x <ℤ (c *ℤ p.d)
IsBeyond (below c) p = (c *ℤ p.d) <ℤ p.y
IsBeyond (above c) p = p.y <ℤ (c *ℤ p.d)

-- balanced edges in a half plane have winding 0 at each point beyond it
abbrev pub NothingWindsBeyond : Type 0
NothingWindsBeyond = (count : CountedEdge → ℤ) (es : List CountedEdge) → IsForwardBy ends_of es →
    IsBalanced ends_of count es → (h : HalfPlane) → All (IsEdgeInHalf h) es →
    (p : PlanePoint) → IsBeyond h p → winding_by count es p ≡ pos 0
