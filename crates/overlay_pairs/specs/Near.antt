-- The later edges that an edge may meet, and a search for them by boxes.
use Rattle.std.specs.Prelude.{◌≡◌, ◌⊎◌, ℕ, ◌+◌, ◌-◌, ◌/◌, ◌%◌, ◌<◌, ◌≤◌, ◌<ℤ◌, List, Contains, length, slice_index_or}
use Rattle.overlay_geom.specs.Edges.{CountedEdge}
use Rattle.overlay_pairs.specs.Extents.{Extent, extent_of, IsApart, ShareNoHeight}
use Rattle.overlay_pairs.specs.Places.{IsAt}
use Rattle.overlay_pairs.specs.Settle.{AreSettled}

-- the box of the heights of the edge e, and of the places from `from` to the end of a run
abbrev pub run_of : CountedEdge → ℕ → ℕ → Extent
run_of e from end =
    record { low = (extent_of e from).low; high = (extent_of e from).high; first = from; last = end - 1 }

-- the edge e lies wholly below f
abbrev pub IsUnder : CountedEdge → CountedEdge → Type 0
IsUnder e f = (extent_of e 0).high <ℤ (extent_of f 0).low

-- the edge f starts right of the end of e, or their heights are apart
abbrev pub IsFar : CountedEdge → CountedEdge → Type 0
IsFar e f = (e.b.x <ℤ f.a.x) ⊎ (IsUnder e f ⊎ IsUnder f e)

-- places of edges from `from` on, including each edge there that e does not meet in ends alone
pub record AreNearBehind (es : List CountedEdge) (e : CountedEdge) (from : ℕ) (js : List ℕ) : Type 0 where
  pub within : (j : ℕ) → Contains js j → (from ≤ j) × (j < length es)
  pub all : (j : ℕ) (f : CountedEdge) → from ≤ j → IsAt es j f → Contains js j ⊎ AreSettled e f

-- places of edges after place i, including each edge that the edge there does not meet in ends alone
abbrev pub AreNear : List CountedEdge → ℕ → List ℕ → Type 0
AreNear es i js = (e : CountedEdge) → IsAt es i e → AreNearBehind es e (i + 1) js

-- the boxes from `from` up to `to` lie apart from s
abbrev pub AreApartFrom : List Extent → Extent → ℕ → ℕ → Type 0
AreApartFrom ss s from to = (k : ℕ) (t : Extent) → from ≤ k → k < to → IsAt ss k t → IsApart s t

-- the box does not lie apart from s, and j is its place
pub record IsNearAt (ss : List Extent) (s : Extent) (j : ℕ) : Type 0 where
  pub place : ℕ
  pub extent : Extent
  pub at : IsAt ss place extent
  pub is : extent.first ≡ j
  pub near : ¬ (IsApart s extent)

-- the places of boxes before `at` that do not lie apart from s: those of all that are not passed over
pub record IsSearchedBy (IsPassed : Extent → Type 0) (ss : List Extent) (s : Extent) (at : ℕ) (js : List ℕ) :
    Type 0 where
  pub from : (j : ℕ) → Contains js j → IsNearAt ss s j
  pub all : (k : ℕ) (t : Extent) → k < at → IsAt ss k t → IsPassed t ⊎ Contains js t.first

-- the places of the boxes before `at` that do not lie apart from s
abbrev pub IsSearchedTo : List Extent → Extent → ℕ → List ℕ → Type 0
IsSearchedTo ss s at js = IsSearchedBy (IsApart s) ss s at js

-- the places of the boxes from `from` up to `to` that do not lie apart from s are added
pub record AreNearAdded (ss : List Extent) (s : Extent) (from to : ℕ) (old new : List ℕ) : Type 0 where
  pub keeps : (j : ℕ) → Contains old j → Contains new j
  pub near : (j : ℕ) → Contains new j → Contains old j ⊎ IsNearAt ss s j
  pub all : (k : ℕ) (t : Extent) → from ≤ k → k < to → IsAt ss k t → IsApart s t ⊎ Contains new t.first

-- the places from `from` up to `to` of the edges that share a height with s
pub record AreNearHeights (es : List CountedEdge) (s : Extent) (from to : ℕ) (js : List ℕ) : Type 0 where
  pub within : (j : ℕ) → Contains js j → (from ≤ j) × (j < to)
  pub near : (j : ℕ) (f : CountedEdge) → Contains js j → IsAt es j f → ¬ (ShareNoHeight s (extent_of f j))
  pub all : (j : ℕ) (f : CountedEdge) → from ≤ j → j < to → IsAt es j f →
      Contains js j ⊎ ShareNoHeight s (extent_of f j)

-- a block of `size` boxes begins at the place, and lies apart from s
pub record BeginsApart (blocks : List Extent) (size : ℕ) (s : Extent) (at : ℕ) : Type 0 where
  pub begins : at % size ≡ 0
  pub apart : (d : Extent) → IsApart s (slice_index_or blocks (at / size) d)
