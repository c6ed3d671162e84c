-- Heights of edges, and of blocks of 8 neighbours in a list.
use Rattle.std.specs.Prelude.{◌≡◌, false, ◌&&◌, ℕ, ◌+◌, ◌*◌, ◌<◌, ◌≤◌, ℤ, ◌≤ℤ◌, int_lt, List, length, slice_index_or}
use Rattle.overlay_geom.specs.Edges.{CountedEdge, ends_of}
use Rattle.overlay_geom.specs.Plane.{Edge}
use Rattle.overlay_pairs.specs.Places.{IsAt}
use Rattle.overlay_given.specs.declared.heights.Heights.{Heights}

-- no end of the edge lies below `low` or above `high`
pub record LiesBetween (e : Edge) (low high : ℤ) : Type 0 where
  pub a_low : low ≤ℤ e.a.y
  pub b_low : low ≤ℤ e.b.y
  pub a_high : e.a.y ≤ℤ high
  pub b_high : e.b.y ≤ℤ high

-- none of the heights from place `from` up to `to` share more than an end with h
abbrev pub AreApartFrom : {I : Type 0} → (I → ℤ) → Heights I → List (Heights I) → ℕ → ℕ → Type 0
AreApartFrom {I = I} whole h hs from to = (k : ℕ) (d : Heights I) → from ≤ k → k < to →
    (int_lt (whole (slice_index_or hs k d).low) (whole h.high) && int_lt (whole h.low)
    (whole (slice_index_or hs k d).high)) ≡ false

-- each edge lies between the heights at its place
abbrev pub LieAtPlaces : {I : Type 0} → (I → ℤ) → List CountedEdge → List (Heights I) → Type 0
LieAtPlaces {I = I} whole es hs = (k : ℕ) (d : Heights I) (f : CountedEdge) → k < length hs → IsAt es k f →
    LiesBetween (ends_of f) (whole (slice_index_or hs k d).low) (whole (slice_index_or hs k d).high)

-- the heights of the edges, each at its edge's place
pub record AreEdgeHeights {I : Type 0} (whole : I → ℤ) (es : List CountedEdge) (hs : List (Heights I)) : Type 0 where
  pub count : length hs ≡ length es
  pub lie : LieAtPlaces whole es hs

-- the edges of each block lie between its heights
abbrev pub LieInBlocks : {I : Type 0} → (I → ℤ) → List CountedEdge → List (Heights I) → Type 0
LieInBlocks {I = I} whole es blocks = (b k : ℕ) (d : Heights I) (f : CountedEdge) → b < length blocks → b * 8 ≤ k →
    k < b * 8 + 8 → IsAt es k f →
    LiesBetween (ends_of f) (whole (slice_index_or blocks b d).low) (whole (slice_index_or blocks b d).high)

-- the heights of the blocks of 8 edges
pub record AreBlockHeights {I : Type 0} (whole : I → ℤ) (es : List CountedEdge) (blocks : List (Heights I)) :
    Type 0 where
  pub enough : length es ≤ length blocks * 8
  pub lie : LieInBlocks whole es blocks
