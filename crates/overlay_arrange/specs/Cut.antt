-- Answers of the functions that cut edges: whether an edge stays whole, whether it is led along its line, and the added
-- pieces.
use Rattle.std.specs.Prelude.{◌≡◌, ◌⊎◌, ◌++◌, ◌∷◌, [], pos, List, All}
use Rattle.overlay_geom.specs.Plane.{Point, Step, cross_at, steps_through}
use Rattle.overlay_geom.specs.Edges.{CountedEdge}
use Rattle.overlay_plane.specs.CutPoints.{cut_points}
use Rattle.overlay_plane.specs.DerivedData.{AreGiven}

-- v is an end of the edge
abbrev pub IsEndOf : CountedEdge → Point → Type 0
IsEndOf e v = (v ≡ e.a) ⊎ (v ≡ e.b)

-- the points through which each edge is led
abbrev pub LeadingPoints : Type 0
LeadingPoints = CountedEdge → List Point

-- the chain of an edge through its points
abbrev pub chain_by : LeadingPoints → CountedEdge → List Step
chain_by points e = steps_through e.a (points e ++ e.b ∷ [])

-- the chain through the points is the edge itself
abbrev pub StaysWhole : CountedEdge → List Point → Type 0
StaysWhole e vs = All (IsEndOf e) vs

-- v lies on the edge's line
abbrev pub IsOnLineOf : CountedEdge → Point → Type 0
IsOnLineOf e v = cross_at e.a e.b v ≡ pos 0

-- the whole points through which the edges of the list lead e lie on its line: no point was rounded to another point
abbrev pub AreLedAlongLines : List CountedEdge → CountedEdge → Type 0
AreLedAlongLines es e = All (IsOnLineOf e) (cut_points es e)

-- the second list extends the first by the items that the entries give
pub record AddsGiven {X Y : Type 0} (gives : X → List Y → Type 0) (xs : List X) (old new : List Y) : Type 0 where
  pub more : List Y
  pub given : AreGiven gives xs more
  pub added : new ≡ old ++ more
