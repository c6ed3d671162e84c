-- The entries that a sweep over a list holds.
use Rattle.std.specs.Prelude.{◌≡◌, ℕ, false, ℤ, List, AllPairs, Contains}
use Rattle.overlay_geom.specs.Edges.{CountedEdge, ends_of}
use Rattle.overlay_plane.specs.Anchors.{is_anchored_before}
use Rattle.overlay_scan.specs.Scan.{Entry, Sweep, live_at, MayMoveTo, IsSweep}

-- the entry of a counted edge, with its value
abbrev pub entry_of : {V : Type 0} → (CountedEdge → V) → CountedEdge → Entry V
entry_of value e = record { edge = ends_of e; value = value e }

-- the entries are ordered by their starting points, then by slope
abbrev pub IsByStart : {V : Type 0} → List (Entry V) → Type 0
IsByStart es = AllPairs (λ e f. is_anchored_before f.edge e.edge ≡ false) es

-- the live entries of the sweep are the entries of the list that are live at x, and so they are from x on
pub record IsSwept {V : Type 0} (limit : ℕ) (x : ℤ) (fs : List (Entry V)) (s : Sweep V) : Type 0 where
  pub state : IsSweep limit s
  pub moves : MayMoveTo x s
  pub from : (f : Entry V) → Contains (live_at x s.entries) f → Contains fs f
  pub all : (f : Entry V) → Contains (live_at x fs) f → Contains (live_at x s.entries) f
