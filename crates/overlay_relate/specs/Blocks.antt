-- Blocks of edges that stand in a row, each with numbers between which its edges lie.
use Rattle.std.specs.Prelude.{ℕ, ◌<◌, ◌≤◌, Bool, ◌||◌, ℤ, ◌≤ℤ◌, int_lt, List, [], ◌∷◌, map, length, All}
use Rattle.std.specs.Prelude.{slice_index_or}
use Rattle.overlay_geom.specs.Plane.{Point, Edge, in_plane}
use Rattle.overlay_geom.specs.Resolved.{IsLongEdge}
use Rattle.overlay_relate.specs.Locations.{IsLocatedBy}
use Rattle.overlay_relate.specs.declared.blocks.Block.{Block as HeldBlock}
use Rattle.overlay_relate.specs.declared.location.PointLocation.TheVariants.{Outside}

-- the edges from the start up to the end, which lie between left and right, and not below the bottom
pub record Block : Type 0 where
  pub start : ℕ
  pub end : ℕ
  pub left : ℤ
  pub right : ℤ
  pub bottom : ℤ

abbrev pub plain_block : {I : Type 0} → (I → ℤ) → HeldBlock I → Block
plain_block whole b = record {
  start = b.start;
  end = b.end;
  left = whole b.left;
  right = whole b.right;
  bottom = whole b.bottom;
}

abbrev pub plain_blocks : {I : Type 0} → (I → ℤ) → List (HeldBlock I) → List Block
plain_blocks whole bs = map (plain_block whole) bs

-- the edge lies between the block's numbers
pub record LiesBetween (b : Block) (e : Edge) : Type 0 where
  pub from : b.left ≤ℤ e.a.x
  pub to : e.b.x ≤ℤ b.right
  pub a_above : b.bottom ≤ℤ e.a.y
  pub b_above : b.bottom ≤ℤ e.b.y

-- so does each edge that stands from its start up to its end
abbrev pub IsBlockOf : List Edge → Block → Type 0
IsBlockOf es b = (n : ℕ) (d : Edge) → b.start ≤ n → n < b.end → n < length es → LiesBetween b (slice_index_or es n d)

-- edges in range, with blocks and with groups of them
pub record AreBlocked (limit : ℕ) (es : List Edge) (blocks groups : List Block) : Type 0 where
  pub long : All (IsLongEdge limit) es
  pub blocks_of : All (IsBlockOf es) blocks
  pub groups_of : All (IsBlockOf es) groups

-- p lies left of the block, right of it or below it
abbrev pub is_clear : Point → Block → Bool
is_clear p b = int_lt p.x b.left || int_lt b.right p.x || int_lt p.y b.bottom

-- none of the edges from one place up to another has p on it, or lies below p
abbrev pub AreClear : List Edge → Point → (from to : ℕ) → Type 0
AreClear es p from to = (n : ℕ) (d : Edge) → from ≤ n → n < to → n < length es →
    IsLocatedBy (slice_index_or es n d ∷ []) (in_plane p) Outside
