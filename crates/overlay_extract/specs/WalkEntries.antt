-- The entries of the sweep that binds: the filled-above edges of walks, and the anchors of the walks whose shapes are
-- still to be found. Each has the index of its walk.
use Rattle.std.specs.Prelude.{◌≡◌, ℕ, false, List, map, All, AllPairs, Contains, slice_get, slice_index_or}
use Rattle.std.specs.Prelude.{Option, None, Some}
use Rattle.overlay_geom.specs.Plane.{Step, Edge, edge_eq}
use Rattle.overlay_plane.specs.Anchors.{IsAnchor}
use Rattle.overlay_plane.specs.Binding.{filled_above_edges, all_filled_above}
use Rattle.overlay_plane.specs.Turn.{Hand}
use Rattle.overlay_scan.specs.Scan.{Entry}
use Rattle.overlay_scan.specs.Sweeps.{IsByStart}

-- the filled-above edges of the walk with this index
abbrev pub filled_entries : Hand → ℕ → List Step → List (Entry ℕ)
filled_entries filled n walk = map (λ e. record { edge = e; value = n }) (filled_above_edges filled walk)

-- the walk with this index has the property
pub record IsOfWalk (walks : List (List Step)) (n : ℕ) (P : List Step → Type 0) : Type 0 where
  pub walk : List Step
  pub at : slice_get walks n ≡ Some walk
  pub has : P walk

-- the entry's edge is a filled-above edge of the entry's walk
abbrev pub IsFilledEntry : Hand → List (List Step) → Entry ℕ → Type 0
IsFilledEntry filled walks f = IsOfWalk walks f.value (λ w. Contains (filled_above_edges filled w) f.edge)

-- the entries are the filled-above edges of the walks, in the order of anchors
pub record AreFilledEntries (filled : Hand) (walks : List (List Step)) (fs : List (Entry ℕ)) : Type 0 where
  pub from : All (IsFilledEntry filled walks) fs
  pub all : (e : Edge) → Contains (all_filled_above filled walks) e → Contains (map (λ f. f.edge) fs) e
  pub distinct : AllPairs (λ f g. edge_eq f.edge g.edge ≡ false) fs
  pub order : IsByStart fs

-- the shape of the walk at place n is not known from the start, and the edge is the walk's anchor
pub record IsAnchored (known : List (Option ℕ)) (n : ℕ) (walk : List Step) (e : Edge) : Type 0 where
  pub is : slice_index_or known n None ≡ None
  pub anchor : IsAnchor walk e

-- the entry's walk is such a walk, and the entry's edge is its anchor
abbrev pub IsHoleEntry : List (List Step) → List (Option ℕ) → Entry ℕ → Type 0
IsHoleEntry walks known h = IsOfWalk walks h.value (λ w. IsAnchored known h.value w h.edge)

-- the entries are the anchors of the walks whose shapes are not known from the start, in the order of anchors
pub record AreHoleEntries (walks : List (List Step)) (known : List (Option ℕ)) (hs : List (Entry ℕ)) : Type 0 where
  pub from : All (IsHoleEntry walks known) hs
  pub all : (n : ℕ) (w : List Step) → slice_get walks n ≡ Some w → slice_index_or known n None ≡ None →
      Contains (map (λ h. h.value) hs) n
  pub order : IsByStart hs
