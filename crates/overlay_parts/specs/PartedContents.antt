-- The edges of parts, the weight of the edges that parts stand for, and parts of light and of heavy edges.
use Rattle.std.specs.Prelude.{ℕ, ◌+◌, ◌-◌, ◌^◌, ◌<◌, ◌≤◌, List, [], ◌∷◌, map}
use Rattle.std.specs.List.{sum_by}
use Rattle.overlay_geom.specs.Counts.{weight_of_counts}
use Rattle.overlay_geom.specs.Edges.{weight, CountedEdge}
use Rattle.overlay_plane.specs.Carried.{Carried, edges_in}
use Rattle.overlay_parts.specs.Parts.{lone_part, AreParted, Part}

-- the parts as edges with their values
abbrev pub carried_parts : {C : Type 0} → List (Part C) → List (Carried C)
carried_parts parts = map (λ p. p.edge) parts

-- the edges of the parts
abbrev pub edges_in_parts : {C : Type 0} → List (Part C) → List CountedEdge
edges_in_parts parts = edges_in (carried_parts parts)

-- the weight by which the edges of a part are heavier than the part
abbrev pub hidden_weight : {C : Type 0} → Part C → ℕ
hidden_weight part = part.cover - weight_of_counts part.edge.edge.counts

-- edges as parts, each heavier than its own weight by the number at its place, or by nothing behind the last number
abbrev pub covered : {C : Type 0} → List (Carried C) → List ℕ → List (Part C)
covered [] hidden = []
covered (x ∷ xs) [] = lone_part x ∷ covered xs []
covered (x ∷ xs) (h ∷ hidden) =
    record { edge = x; cover = weight_of_counts x.edge.counts + h } ∷ covered xs hidden

-- the weight of the edges of all parts
abbrev pub cover_of : {C : Type 0} → List (Part C) → ℕ
cover_of parts = sum_by (λ part. part.cover) parts

-- the edges of some parts of the list weigh n or more
pub record AreHeavyParts {C : Type 0} (merges : C → C → C → Type 0) (n : ℕ) (old : List (Carried C)) : Type 0 where
  pub parts : List (Part C)
  pub parted : AreParted merges (map lone_part old) parts
  pub heavy : n ≤ cover_of parts

-- the parts result from edges that are light
pub record AreLightParts {C : Type 0} (merges : C → C → C → Type 0) (parts : List (Part C)) : Type 0 where
  pub edges : List (Carried C)
  pub parted : AreParted merges (map lone_part edges) parts
  pub light : weight (edges_in edges) < 2 ^ 31
