-- The model of the nodes of a tree: their links, their entries, and the number of visits of entries.
use Rattle.std.specs.Prelude.{◌≡◌, ℕ, ◌∷◌, [], List, Some, slice_get}
use Rattle.overlay_geom.specs.declared.point.IntPoint.{IntPoint}
use Rattle.overlay_scan.specs.declared.list.LiveEdge.{LiveEdge}
use Rattle.overlay_scan.specs.declared.tree.links.Links.{Links}

-- the links of each node, its entry, and the visits so far
pub record Store (I V : Type 0) : Type 0 where
  pub links : List Links
  pub entries : List (LiveEdge I V)
  pub visits : ℕ

-- the line of an entry, and its value
abbrev pub line_and_value : {I V : Type 0} → LiveEdge I V → List (IntPoint I) × V
line_and_value f = (f.a ∷ f.b ∷ [], f.value)

-- the line and the value are those of the entry at a place
pub record IsEntryAt {I V : Type 0} (entries : List (LiveEdge I V)) (place : ℕ) (read : List (IntPoint I) × V) : Type 0
  where
    pub entry : LiveEdge I V
    pub there : slice_get entries place ≡ Some entry
    pub is : read ≡ line_and_value entry
