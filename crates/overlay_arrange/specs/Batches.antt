-- Lists of edges in which equal edges may be joined: they have the same merged lists as all edges.
use Rattle.std.specs.Prelude.{◌≡◌, ◌<◌, ◌^◌, List, ◌++◌, flat_map}
use Rattle.overlay_geom.specs.Edges.{weight}
use Rattle.overlay_geom.specs.Merged.{joined_edge}
use Rattle.overlay_geom.specs.Plane.{Edge}
use Rattle.overlay_plane.specs.Carried.{Carried, edges_in}
use Rattle.overlay_plane.specs.Cutting.{pieces_through}
use Rattle.overlay_plane.specs.DerivedData.{AreCutAlong, AreGiven, IsMergeOf, carried_between}
use Rattle.overlay_arrange.specs.Cut.{chain_by, LeadingPoints}

-- the second list stands for the first: between any two ends it has the same counts, all edges together. A merge of its
-- values there and of others is a merge of the first list's values and the others
pub record StandFor {C : Type 0} (merges : C → C → C → Type 0) (old new : List (Carried C)) : Type 0 where
  pub counts : (e : Edge) → joined_edge (edges_in new) e ≡ joined_edge (edges_in old) e
  pub values : (e : Edge) (others : List C) (c : C) → IsMergeOf merges (carried_between new e ++ others) c →
      IsMergeOf merges (carried_between old e ++ others) c

-- the second list stands for the first and the parts that the entries give
pub record AddsJoined {X C : Type 0} (merges : C → C → C → Type 0) (gives : X → List (Carried C) → Type 0) (xs : List X)
    (old new : List (Carried C)) : Type 0 where
  pub more : List (Carried C)
  pub given : AreGiven gives xs more
  pub stands : StandFor merges (old ++ more) new

-- the second list stands for the pieces of the edges of the first, which are light
pub record AreJoinedPieces {C : Type 0} (merges : C → C → C → Type 0) (splits reverses : C → C → Type 0)
    (points : LeadingPoints) (old new : List (Carried C)) : Type 0 where
  pub pieces : List (Carried C)
  pub edges : edges_in pieces ≡ flat_map (pieces_through points) (edges_in old)
  pub carried : AreCutAlong splits reverses (chain_by points) old pieces
  pub light : weight (edges_in pieces) < 2 ^ 31
  pub stands : StandFor merges pieces new
