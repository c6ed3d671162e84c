-- The chain of an added edge with a mark: marks keep its steps in the arrangement.
use Rattle.std.specs.Prelude.{◌≡◌, ◌⊎◌, true, List, Contains}
use Rattle.overlay_geom.specs.Plane.{Step, edge_of}
use Rattle.overlay_geom.specs.Edges.{CountedEdge, ends_of}
use Rattle.overlay_geom.specs.declared.solver.Solver.{Solver}
use Rattle.overlay_plane.specs.Arrangements.{IsReachedBy}
use Rattle.overlay_plane.specs.ChainLinks.{chain_through, marks_along, marks_against}
use Rattle.overlay_plane.specs.EdgeLists.{IsForwardBy}
use Rattle.overlay_plane.specs.Rounds.{Round}

-- the step belongs to the chain of the edge e, and runs along an edge of the list with the marks that e gives to the
-- step
pub record IsMarkedStep (es : List CountedEdge) (e : CountedEdge) (t : Step) : Type 0 where
  pub edge : CountedEdge
  pub entry : Contains es edge
  pub ends : ends_of edge ≡ edge_of t
  pub along : marks_along e t ≡ true → edge.counts.along ≡ true
  pub against : marks_against e t ≡ true → edge.counts.against ≡ true

-- an arrangement has an edge along each step of the chain of an edge with a mark
abbrev pub MarkedChainsStay : Type 0
MarkedChainsStay = (solver : Solver) (rounds : List Round) (old new : List CountedEdge) → IsForwardBy ends_of old →
    IsReachedBy solver rounds old new → (e : CountedEdge) → Contains old e →
    (e.counts.along ≡ true) ⊎ (e.counts.against ≡ true) →
    (t : Step) → Contains (chain_through rounds e) t → IsMarkedStep new e t
