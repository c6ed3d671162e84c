-- Results of a descent through a tree.
use Rattle.std.specs.Prelude.{◌≡◌, Bool, false, cond, ℕ, ℤ, int_lt, List, [], ◌∷◌, ◌++◌, Option, Some}
use Rattle.std.specs.Prelude.{None}
use Rattle.std.specs.Prelude.{slice_get, filter_map}
use Rattle.std.specs.Ordering.{is_gt}
use Rattle.std.specs.declared.cmp.Ordering.{Ordering}
use Rattle.overlay_geom.specs.declared.point.IntPoint.{IntPoint}
use Rattle.overlay_scan.specs.HeldEntries.{live_of, Tells, IsParted}
use Rattle.overlay_scan.specs.Lists.{PassBefore}
use Rattle.overlay_scan.specs.Scan.{Entry}
use Rattle.overlay_scan.specs.declared.list.LiveEdge.{LiveEdge}
use Rattle.overlay_scan.specs.declared.tree.descend.End.{End}
use Rattle.overlay_scan.specs.declared.tree.descend.End.TheVariants.{Ended, Found}
use Rattle.overlay_scan.specs.declared.tree.links.Links.{Links}
use Rattle.overlay_scan.specs.declared.tree.links.NodeIndex.{NodeIndex}
use Rattle.overlay_scan.specs.declared.tree.links.Side.{Side}
use Rattle.overlay_scan.specs.declared.tree.links.Side.TheVariants.{Left, Right}
use Rattle.overlay_scan.specs.Trees.{Tree, Leaf, Fork, items, IsIn, Stands, IsTreeAt, IsReplaced}

-- the entries of these nodes that are live at x, in order
abbrev pub live_entries : {I V : Type 0} → (I → ℤ) → ℤ → List (LiveEdge I V) → List ℕ → List (Entry V)
live_entries whole x es is = live_of whole x (filter_map (slice_get es) is)

-- the tree of one node, or of none
abbrev pub alone : Option NodeIndex → Tree
alone None = Leaf
alone (Some i) = Fork Leaf i.place Leaf

-- a tree stands, and beside it the node to be inserted, if there is one
pub record CanDescend (ls : List Links) (root put : Option NodeIndex) (t : Tree) : Type 0 where
  pub at : IsTreeAt ls root t
  pub put_stands : Stands ls (alone put)
  pub other : (k : ℕ) → IsIn k (items t) → IsIn k (items (alone put)) → ⊥

-- the descent goes to the left of an entry that is above
abbrev pub side_of : Ordering → Side
side_of o = cond (is_gt o) Left Right

-- the value found below, or else the value of the passed entry where the descent went on above it
abbrev pub passed_on : {V : Type 0} → Side → V → Option V → Option V
passed_on Left value v = v
passed_on Right value None = Some value
passed_on Right value (Some v) = Some v

-- the end of the descent, seen from such an entry
abbrev pub end_above : {V : Type 0} → Side → V → End V → End V
end_above side value (Ended j) = Ended j
end_above side value (Found v) = Found (passed_on side value v)

-- other nodes replace some nodes in the middle of t
pub record IsExchanged (old new : List Links) (t : Tree) (root : Option NodeIndex)
    (out into before after : List ℕ) : Type 0 where
  pub same : items t ≡ before ++ (out ++ after)
  pub replaced : IsReplaced (items t ++ into) old new t root (before ++ (into ++ after))

module _ {I V : Type 0} (whole : I → ℤ) (post : List (IntPoint I) → Ordering → Type 0) (x : ℤ)
    (es : List (LiveEdge I V)) where
  -- an entry that has ended is taken out
  pub record IsDropped (old new : List Links) (t : Tree) (put root : Option NodeIndex) (j : ℕ) : Type 0 where
    pub before : List ℕ
    pub after : List ℕ
    pub exchanged : IsExchanged old new t root (j ∷ []) [] before after
    pub entry : LiveEdge I V
    pub there : slice_get es j ≡ Some entry
    pub ended : int_lt x (whole entry.b.x) ≡ false

  -- the node is put in between those that pass and those that do not
  pub record IsPassed (old new : List Links) (t : Tree) (put root : Option NodeIndex) (v : Option V) : Type 0 where
    pub before : List ℕ
    pub after : List ℕ
    pub exchanged : IsExchanged old new t root [] (items (alone put)) before after
    pub parted : (passes : Entry V → Bool) → Tells whole post passes (live_entries whole x es (items t)) →
        PassBefore passes (live_entries whole x es (items t)) →
        IsParted passes (live_entries whole x es before) (live_entries whole x es after) v

  -- an ended entry is taken out, or the node is inserted
  abbrev pub IsEndOf : List Links → List Links → Tree → Option NodeIndex → Option NodeIndex → End V → Type 0
  IsEndOf old new t put root (Ended j) = IsDropped old new t put root j.place
  IsEndOf old new t put root (Found v) = IsPassed old new t put root v
