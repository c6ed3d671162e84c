-- A tree, and beside it the reusable nodes.
use Rattle.std.specs.Prelude.{◌≡◌, ℕ, zero, suc, ◌+◌, ◌*◌, ◌^◌, ◌<◌, ◌≤◌, List, [], ◌∷◌, ◌++◌, Option, Some, None, Bool}
use Rattle.std.specs.Prelude.{slice_get, length, ℤ}
use Rattle.std.specs.declared.cmp.Ordering.{Ordering}
use Rattle.overlay_geom.specs.declared.point.IntPoint.{IntPoint}
use Rattle.overlay_scan.specs.HeldEntries.{Tells, IsParted}
use Rattle.overlay_scan.specs.Lists.{PassBefore}
use Rattle.overlay_scan.specs.Scan.{Entry}
use Rattle.overlay_scan.specs.declared.list.LiveEdge.{LiveEdge}
use Rattle.overlay_scan.specs.declared.tree.links.Links.{Links}
use Rattle.overlay_scan.specs.declared.tree.links.NodeIndex.{NodeIndex}
use Rattle.overlay_scan.specs.Descents.{live_entries, alone, CanDescend}
use Rattle.overlay_scan.specs.Trees.{Tree, Leaf, Fork, items, IsIn, AreDistinct, IsTreeAt, stored_height}

-- ---- the tree below a root

abbrev pub fork_at : (Option NodeIndex → Tree) → ℕ → Option Links → Tree
fork_at down i None = Leaf
fork_at down i (Some links) = Fork (down links.left) i (down links.right)

-- the upper levels of the tree, at most n
abbrev pub tree_of : ℕ → List Links → Option NodeIndex → Tree
tree_of zero ls root = Leaf
tree_of (suc n) ls None = Leaf
tree_of (suc n) ls (Some i) = fork_at (tree_of n ls) i.place (slice_get ls i.place)

-- the whole tree
abbrev pub tree_at : List Links → Option NodeIndex → Tree
tree_at ls root = tree_of (stored_height ls root) ls root

-- ---- the reusable nodes

abbrev pub first_of : List ℕ → Option NodeIndex
first_of [] = None
first_of (i ∷ is) = Some (record { place = i })

-- each node has the next reusable node on its left
abbrev pub IsChain : List Links → List ℕ → Type 0
IsChain ls [] = Unit {0}
IsChain ls (i ∷ is) = ((links : Links) × (slice_get ls i ≡ Some links) × (links.left ≡ first_of is)) × IsChain ls is

-- a tree stands, and other nodes are reusable
pub record IsForest (ls : List Links) (root free : Option NodeIndex) (t : Tree) (unused : List ℕ) : Type 0 where
  pub at : IsTreeAt ls root t
  pub free_is : free ≡ first_of unused
  pub chain : IsChain ls unused
  pub once : AreDistinct unused
  pub apart : (k : ℕ) → IsIn k (items t) → IsIn k unused → ⊥

-- such a forest, and a node in neither part that may be inserted
pub record CanSettle (ls : List Links) (root free put : Option NodeIndex) (t : Tree) (unused : List ℕ) : Type 0 where
  pub forest : IsForest ls root free t unused
  pub can : CanDescend ls root put t
  pub put_apart : (k : ℕ) → IsIn k unused → IsIn k (items (alone put)) → ⊥

-- the number of visits does not fall. It rises by at most 2(d + 1) times the number of binary digits of n + 1, where d
-- of n entries are dropped
pub record AreFewVisits (old new n d : ℕ) : Type 0 where
  pub never_fall : old ≤ new
  pub few : (digits : ℕ) → n + 1 < 2 ^ digits → new ≤ old + 2 * (d + 1) * digits

module _ {I V : Type 0} (whole : I → ℤ) (post : List (IntPoint I) → Ordering → Type 0) (x : ℤ)
    (es : List (LiveEdge I V)) where
  -- live entries stay, and the node is put in between those that pass and those that do not
  pub record IsFound (new : List Links) (t : Tree) (put root free : Option NodeIndex) (v : Option V) : Type 0 where
    pub tree : Tree
    pub unused : List ℕ
    pub forest : IsForest new root free tree unused
    pub before : List ℕ
    pub after : List ℕ
    pub was : live_entries whole x es (items t) ≡ live_entries whole x es before ++ live_entries whole x es after
    pub now : live_entries whole x es (items tree) ≡ live_entries whole x es before
        ++ (live_entries whole x es (items (alone put)) ++ live_entries whole x es after)
    pub parted : (passes : Entry V → Bool) → Tells whole post passes (live_entries whole x es (items t)) →
        PassBefore passes (live_entries whole x es (items t)) →
        IsParted passes (live_entries whole x es before) (live_entries whole x es after) v
    pub dropped : ℕ
    pub count : length (items tree) + dropped ≡ length (items t) + length (items (alone put))

  -- `IsFound` holds, after few visits
  abbrev pub IsSettledSo : ℕ → ℕ → List Links → Tree → Option NodeIndex → Option NodeIndex → Option NodeIndex → Option
      V → Type 0
  IsSettledSo visits_before visits_after new t put root free v = (found : IsFound new t put root free v)
      × AreFewVisits visits_before visits_after (length (items t)) found.dropped

-- a node that is in no tree has the entry, and the entries of the tree are unchanged
pub record IsFresh {I V : Type 0} (old new : List (LiveEdge I V)) (ls : List Links) (root : Option NodeIndex) (t : Tree)
    (free : Option NodeIndex) (node : NodeIndex) (entry : LiveEdge I V) : Type 0 where
  pub unused : List ℕ
  pub can : CanSettle ls root free (Some node) t unused
  pub there : slice_get new node.place ≡ Some entry
  pub kept : (k : ℕ) → IsIn k (items t) → slice_get new k ≡ slice_get old k

-- a tree stands, and other nodes are reusable
abbrev pub HasForest : List Links → Option NodeIndex → Option NodeIndex → Type 0
HasForest ls root free = (t : Tree) × (unused : List ℕ) × IsForest ls root free t unused
