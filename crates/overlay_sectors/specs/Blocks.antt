-- Blocks of counted edges that stand in a row, each with numbers between which its edges lie.
use Rattle.std.specs.Prelude.{◌≡◌, false, Bool, ℕ, ◌<◌, ◌≤◌, List, length, All, slice_index_or}
use Rattle.overlay_geom.specs.Edges.{CountedEdge, ends_of}
use Rattle.overlay_geom.specs.Plane.{Point, Edge, in_plane}
use Rattle.overlay_relate.specs.Blocks.{Block, LiesBetween}
use Rattle.overlay_sectors.specs.Sectors.{is_below_near, leads_from}
use Rattle.overlay_sectors.specs.declared.flank.Flank.{Flank}

-- each edge that stands from its start up to its end lies between its numbers
abbrev pub IsBlockOf : List CountedEdge → Block → Type 0
IsBlockOf es b = (n : ℕ) (d : CountedEdge) → b.start ≤ n → n < b.end → n < length es →
    LiesBetween b (ends_of (slice_index_or es n d))

-- blocks, and groups, of the edges
pub record AreBlocked (es : List CountedEdge) (blocks groups : List Block) : Type 0 where
  pub blocks_of : All (IsBlockOf es) blocks
  pub groups_of : All (IsBlockOf es) groups

-- the edge is below no sector round v, and leads into none
pub record IsAside (v : Point) (e : Edge) : Type 0 where
  pub not_below : (h : Flank) (low : Bool) → is_below_near h e (in_plane v) low ≡ false
  pub not_from : (h : Flank) → leads_from h e (in_plane v) ≡ false

-- so is each edge from one place up to another
abbrev pub AreAside : List CountedEdge → Point → (from to : ℕ) → Type 0
AreAside es v from to = (n : ℕ) (d : CountedEdge) → from ≤ n → n < to → n < length es →
    IsAside v (ends_of (slice_index_or es n d))
