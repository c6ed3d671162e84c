-- Boxes of edges and points, by their range of y-coordinates and their range of places, and blocks of such boxes.
use Rattle.std.specs.Prelude.{◌≡◌, ◌⊎◌, ℕ, ◌<◌, ◌≤◌, ◌/◌, cond, ℤ, ◌<ℤ◌, ◌≤ℤ◌, int_lt, List, map, length}
use Rattle.std.specs.Prelude.{slice_index_or}
use Rattle.overlay_geom.specs.Plane.{Point}
use Rattle.overlay_geom.specs.Edges.{CountedEdge}
use Rattle.overlay_geom.specs.Numbered.{Numbered, numbered}
use Rattle.overlay_pairs.specs.Places.{IsAt}
use Rattle.overlay_pairs.specs.declared.extents.Extent.{Extent as HeldExtent}

-- a box: the least and the greatest y-coordinate of edges or points, and their first and last place
pub record Extent : Type 0 where
  pub low : ℤ
  pub high : ℤ
  pub first : ℕ
  pub last : ℕ

-- the box of the edge at a place
abbrev pub extent_of : CountedEdge → ℕ → Extent
extent_of e place = record {
  low = cond (int_lt e.a.y e.b.y) e.a.y e.b.y;
  high = cond (int_lt e.a.y e.b.y) e.b.y e.a.y;
  first = place;
  last = place;
}

abbrev pub extent_at : Numbered CountedEdge → Extent
extent_at n = extent_of n.item n.place

-- the boxes of the edges of a list, each at its place
abbrev pub extents_of : List CountedEdge → List Extent
extents_of es = map extent_at (numbered 0 es)

-- the box of the point at a place
abbrev pub extent_of_point : Point → ℕ → Extent
extent_of_point v place = record { low = v.y; high = v.y; first = place; last = place }

abbrev pub extent_at_point : Numbered Point → Extent
extent_at_point n = extent_of_point n.item n.place

-- the boxes of the points of a list, each at its place
abbrev pub extents_of_points : List Point → List Extent
extents_of_points vs = map extent_at_point (numbered 0 vs)

-- the box of whole numbers for a box of the program, and those of a list
abbrev pub plain_extent : {I : Type 0} → (I → ℤ) → HeldExtent I → Extent
plain_extent whole s = record { low = whole s.low; high = whole s.high; first = s.first; last = s.last }

abbrev pub plain_extents : {I : Type 0} → (I → ℤ) → List (HeldExtent I) → List Extent
plain_extents whole ss = map (plain_extent whole) ss

-- the boxes share no height
abbrev pub ShareNoHeight : Extent → Extent → Type 0
ShareNoHeight s t = (s.high <ℤ t.low) ⊎ (t.high <ℤ s.low)

-- the boxes share no height, or no place
abbrev pub IsApart : Extent → Extent → Type 0
IsApart s t = (s.high <ℤ t.low) ⊎ ((t.high <ℤ s.low) ⊎ ((s.last < t.first) ⊎ (t.last < s.first)))

-- the first box encloses the second, in heights and in places
pub record Encloses (s t : Extent) : Type 0 where
  pub low : s.low ≤ℤ t.low
  pub high : t.high ≤ℤ s.high
  pub first : s.first ≤ t.first
  pub last : t.last ≤ s.last

-- the box of each block of n boxes encloses all of them
abbrev pub AreBlocks : ℕ → List Extent → List Extent → Type 0
AreBlocks n ss blocks = (k : ℕ) (s d : Extent) → IsAt ss k s →
    (k / n < length blocks) × Encloses (slice_index_or blocks (k / n) d) s

-- the boxes of blocks enclose their boxes
pub record AreInBlocks (ss of_8 of_64 of_512 of_4096 of_32768 : List Extent) : Type 0 where
  pub by_8 : AreBlocks 8 ss of_8
  pub by_64 : AreBlocks 64 ss of_64
  pub by_512 : AreBlocks 512 ss of_512
  pub by_4096 : AreBlocks 4096 ss of_4096
  pub by_32768 : AreBlocks 32768 ss of_32768

-- each box has its own place alone
abbrev pub AreAtPlaces : List Extent → Type 0
AreAtPlaces ss = (k : ℕ) (s : Extent) → IsAt ss k s → (s.first ≡ k) × (s.last ≡ k)

-- each box has a single place, and is in the strip, `width` wide, of this place
abbrev pub AreInStrips : ℕ → List Extent → Type 0
AreInStrips width ss = (k : ℕ) (s : Extent) → IsAt ss k s → (s.first / width ≡ k / width) × (s.last ≡ s.first)

-- the boxes of each strip, `width` wide, are sorted by their least heights
abbrev pub AreByHeights : ℕ → List Extent → Type 0
AreByHeights width ss = (j k : ℕ) (s t : Extent) → j ≤ k → j / width ≡ k / width → IsAt ss j s → IsAt ss k t →
    s.low ≤ℤ t.low
