-- Edges that are parted before they are cut: the pieces of their parts, which stand for those of the edges.
use Rattle.std.specs.Prelude.{ℕ, ◌*◌, ◌<◌, ◌^◌, List, [], map, length, sum_by}
use Rattle.overlay_plane.specs.Carried.{Carried}
use Rattle.overlay_plane.specs.DerivedData.{AreCutAlong}
pub use Rattle.overlay_order.specs.Parting.{MayPart}
use Rattle.overlay_parts.specs.PartedContents.{carried_parts, covered}
use Rattle.overlay_parts.specs.Parts.{Part, lone_part, AreParted}
use Rattle.overlay_arrange.specs.Batches.{StandFor}
use Rattle.overlay_arrange.specs.Cut.{chain_by, LeadingPoints}

-- the weight of the pieces of all edges over a part: for each step of its chain the weight of these edges
abbrev pub cover_weight_of : {C : Type 0} → LeadingPoints → Part C → ℕ
cover_weight_of points part = part.cover * length (chain_by points part.edge.edge)

-- the weight for all parts
abbrev pub cover_weight : {C : Type 0} → LeadingPoints → List (Part C) → ℕ
cover_weight points parts = sum_by (cover_weight_of points) parts

-- the second list stands for the pieces of the parts, and the pieces of all edges over these are light
pub record AreJoinedParts {C : Type 0} (merges : C → C → C → Type 0) (splits reverses : C → C → Type 0)
    (points : LeadingPoints) (parts : List (Part C)) (new : List (Carried C)) : Type 0 where
  pub pieces : List (Carried C)
  pub carried : AreCutAlong splits reverses (chain_by points) (carried_parts parts) pieces
  pub light : cover_weight points parts < 2 ^ 31
  pub stands : StandFor merges pieces new

-- the edges of the second list are those of the first, or their parts with the hidden weights: edges at places behind
-- the last number hide nothing
pub data AreInParts {C : Type 0} (merges : C → C → C → Type 0) (splits reverses : C → C → Type 0)
    (old : List (Carried C)) : List (Carried C) → List ℕ → Type 0 where
  unparted : AreInParts merges splits reverses old old []
  in_parts : {new : List (Carried C)} {hidden : List ℕ} → MayPart merges splits reverses →
      AreParted merges (map lone_part old) (covered new hidden) → AreInParts merges splits reverses old new hidden
