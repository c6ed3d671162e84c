-- Edges on one line, parted at each other's ends. Equal parts become one.
use Rattle.std.specs.Prelude.{◌≡◌, ◌⊎◌, ℕ, ◌+◌, ◌≤◌, ℤ, true, cond, List, [], ◌∷◌, ◌++◌, map}
use Rattle.std.specs.List.Sorted.{IsPermutation}
use Rattle.overlay_geom.specs.Counts.{Counts, joined_counts, weight_of_counts}
use Rattle.overlay_geom.specs.Edges.{ends_of}
use Rattle.overlay_geom.specs.Placed.{IsAlong}
use Rattle.overlay_geom.specs.Plane.{Point, Edge, point_lt}
use Rattle.overlay_plane.specs.Carried.{Carried}
use Rattle.overlay_order.specs.Content.{carried_edge, edge_with, IsHeld}
use Rattle.overlay_parts.specs.declared.parts.Part.{Part as HeldPart}

-- a part of some edges with the value that it carries, and the weight of these edges
pub record Part (C : Type 0) : Type 0 where
  pub edge : Carried C
  pub cover : ℕ

-- the part of whole numbers for a part of the program
abbrev pub plain_part : {I C : Type 0} → (I → ℤ) → (C → Counts) → HeldPart I C → Part C
plain_part whole counts part = record { edge = carried_edge whole counts part.edge; cover = part.cover }

-- those of a list
abbrev pub plain_parts : {I C : Type 0} → (I → ℤ) → (C → Counts) → List (HeldPart I C) → List (Part C)
plain_parts whole counts parts = map (plain_part whole counts) parts

-- an edge as a part of itself
abbrev pub lone_part : {C : Type 0} → Carried C → Part C
lone_part x = record { edge = x; cover = weight_of_counts x.edge.counts }

-- the ends of a part
abbrev pub ends_of_part : {C : Type 0} → Part C → Edge
ends_of_part part = ends_of part.edge.edge

-- the part from v to w of a part
abbrev pub part_between : {C : Type 0} → Part C → Point → Point → Part C
part_between part v w = record {
  edge = record { edge = edge_with v w part.edge.edge.counts; carries = part.edge.carries };
  cover = part.cover;
}

-- the part runs from its smaller to its larger end, both in range, and its own weight is at most that of its edges
pub record IsHeldPart {C : Type 0} (limit : ℕ) (part : Part C) : Type 0 where
  pub held : IsHeld limit part.edge.edge
  pub light : weight_of_counts part.edge.edge.counts ≤ part.cover

-- the smaller one of two points
abbrev pub first_of : Point → Point → Point
first_of v w = cond (point_lt w v) w v

-- the larger one of two points
abbrev pub last_of : Point → Point → Point
last_of v w = cond (point_lt v w) w v

-- the part, from a point on if that lies inside it
abbrev pub part_behind : {C : Type 0} → Part C → Point → Part C
part_behind part v = part_between part (last_of (ends_of_part part).a v) (ends_of_part part).b

-- the part from a point on, or none where it ends there or before
abbrev pub rest_behind : {C : Type 0} → Part C → Point → List (Part C)
rest_behind part v = cond (point_lt v (ends_of_part part).b) (part_behind part v ∷ []) []

-- v lies between the ends of the part, and is an end of another part on its line
pub record IsPartedAt {C : Type 0} (part other : Part C) (v : Point) : Type 0 where
  pub along : IsAlong (ends_of_part part) (ends_of_part other)
  pub after : point_lt (ends_of_part part).a v ≡ true
  pub before : point_lt v (ends_of_part part).b ≡ true
  pub is_end : (v ≡ (ends_of_part other).a) ⊎ (v ≡ (ends_of_part other).b)

-- two equal parts become one. It has the counts and the weight of both, and carries a merge of their values
pub record IsJoinedPart {C : Type 0} (merges : C → C → C → Type 0) (s t both : Part C) : Type 0 where
  pub equal : ends_of_part s ≡ ends_of_part t
  pub ends : ends_of_part both ≡ ends_of_part s
  pub counts : both.edge.edge.counts ≡ joined_counts s.edge.edge.counts t.edge.edge.counts
  pub values : merges s.edge.carries t.edge.carries both.edge.carries
  pub cover : both.cover ≡ s.cover + t.cover

-- the second list results from the first by parting one part at an end of another, and by joining two equal ones, again
-- and again
pub data AreParted {C : Type 0} (merges : C → C → C → Type 0) : List (Part C) → List (Part C) → Type 0 where
  moved : {old new : List (Part C)} → IsPermutation old new → AreParted merges old new
  parted : {old rest new : List (Part C)} {part other : Part C} {v : Point} →
      IsPermutation old (part ∷ other ∷ rest) → IsPartedAt part other v →
      AreParted merges (part_between part (ends_of_part part).a v ∷ part_between part v (ends_of_part part).b ∷ other
      ∷ rest) new → AreParted merges old new
  joined : {old rest new : List (Part C)} {s t both : Part C} → IsPermutation old (s ∷ t ∷ rest) →
      IsJoinedPart merges s t both → AreParted merges (both ∷ rest) new → AreParted merges old new

-- the first part of two parts on one line, up to the next end of either: the parts are parted into it and what lies
-- behind
abbrev pub IsFirstPart : {C : Type 0} → (C → C → C → Type 0) → Part C → Part C → Part C → Type 0
IsFirstPart merges s t first = AreParted merges (s ∷ t ∷ [])
    (first ∷ rest_behind s (ends_of_part first).b ++ rest_behind t (ends_of_part first).b)
