-- Shapes in arrays: counted edges of contours, two lists of blocks of them, and a fill rule.
use Rattle.std.specs.Prelude.{ℕ, ◌<◌, ℤ, List, [], map}
use Rattle.overlay_geom.specs.Edges.{CountedEdge}
use Rattle.overlay_sectors.specs.Blocks.{AreBlocked}
use Rattle.overlay_located.specs.GivenShapes.{GivenShape}
use Rattle.overlay_order.specs.Content.{plain_edges, IsContent}
use Rattle.overlay_order.specs.Counts.{boolean_counts}
use Rattle.overlay_order.specs.declared.count.ShapeCountBoolean.{ShapeCountBoolean}
use Rattle.overlay_order.specs.declared.edge.CountedEdge.{CountedEdge as HeldEdge}
use Rattle.overlay_relate.specs.Blocks.{Block, plain_blocks}
use Rattle.overlay_relate.specs.declared.blocks.Block.{Block as HeldBlock}
use Rattle.polyover_calls.specs.Asked.{fill_of}
use Rattle.polyover_calls.specs.Prepared.{block_of_32, block_of_64}
use Rattle.polyover_located.specs.declared.prepare.HeldShape.{HeldShape}
use Rattle.polyover_located.specs.declared.shape.Exact32.{Exact32}
use Rattle.polyover_located.specs.declared.shape.Exact64.{Exact64}
use Rattle.polyover_located.specs.declared.shape.ExactEdge32.{ExactEdge32}
use Rattle.polyover_located.specs.declared.shape.ExactEdge64.{ExactEdge64}

-- an edge of the program, which carries counts
abbrev pub BooleanEdge : Type 0 → Type 0
BooleanEdge I = HeldEdge I ShapeCountBoolean

-- ---- as C has them

-- the edges of what C has
abbrev pub edge_of_64 : ExactEdge64 → BooleanEdge ℤ
edge_of_64 e = record {
  a = record { x = e.a_x; y = e.a_y };
  b = record { x = e.b_x; y = e.b_y };
  count = record { subj = e.subj; clip = e.clip };
}

abbrev pub edge_of_32 : ExactEdge32 → BooleanEdge ℤ
edge_of_32 e = record {
  a = record { x = e.a_x; y = e.a_y };
  b = record { x = e.b_x; y = e.b_y };
  count = record { subj = e.subj; clip = e.clip };
}

-- ---- their parts

-- the number of a fill rule, counted edges, and two lists of blocks of them
pub record ExactParts : Type 0 where
  pub fill : ℕ
  pub edges : List CountedEdge
  pub blocks : List Block
  pub groups : List Block

-- those between whole points
abbrev pub plain_parts : {I : Type 0} → (I → ℤ) → ℕ → List (BooleanEdge I) → List (HeldBlock I) → List (HeldBlock I) →
    ExactParts
plain_parts whole fill edges blocks groups = record {
  fill = fill;
  edges = plain_edges whole boolean_counts edges;
  blocks = plain_blocks whole blocks;
  groups = plain_blocks whole groups;
}

-- those in some form
abbrev pub parts_of : {I E B : Type 0} → (I → ℤ) → (E → BooleanEdge I) → (B → HeldBlock I) → HeldShape E B → ExactParts
parts_of whole edge block p =
    plain_parts whole p.fill (map edge p.edges.now) (map block p.blocks.now) (map block p.groups.now)

-- those of a shape as C has it, at 64 and at 32 bits
abbrev pub parts_at_64 : Exact64 → ExactParts
parts_at_64 p = plain_parts (λ z. z) p.fill (map edge_of_64 p.edges.now) (map block_of_64 p.blocks.now)
    (map block_of_64 p.groups.now)

abbrev pub parts_at_32 : Exact32 → ExactParts
parts_at_32 p = plain_parts (λ z. z) p.fill (map edge_of_32 p.edges.now) (map block_of_32 p.blocks.now)
    (map block_of_32 p.groups.now)

-- without an item each, and the number 0
abbrev pub no_parts : ExactParts
no_parts = record { fill = 0; edges = []; blocks = []; groups = [] }

-- the shape of the edges under the fill rule
abbrev pub shape_of : ExactParts → GivenShape
shape_of p = record { fill_rule = fill_of p.fill; edges = p.edges }

-- the fill rule is known, a builder may hold the edges, and the blocks are blocks of them, as of each shape that is
-- handed out, and of one without parts
pub record CanBeAsked (limit : ℕ) (p : ExactParts) : Type 0 where
  pub known : p.fill < 4
  pub content : IsContent limit p.edges
  pub blocked : AreBlocked p.edges p.blocks p.groups
