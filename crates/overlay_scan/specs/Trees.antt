-- Binary trees of nodes, named by their places in a list, and their representation by links there.
use Rattle.std.specs.Prelude.{◌≡◌, ◌⊎◌, ℕ, ◌+◌, ◌≤◌, ◌<◌, max, List, [], ◌∷◌, ◌++◌, Option, Some, None, slice_get}
use Rattle.std.specs.Prelude.{length}
use Rattle.overlay_scan.specs.declared.tree.links.Links.{Links}
use Rattle.overlay_scan.specs.declared.tree.links.NodeIndex.{NodeIndex}
use Rattle.overlay_scan.specs.declared.tree.links.Side.{Side}
use Rattle.overlay_scan.specs.declared.tree.links.Side.TheVariants.{Left, Right}

pub data Tree : Type 0 where
  Leaf : Tree
  Fork : Tree → ℕ → Tree → Tree

-- the root node
abbrev pub root_of : Tree → Option NodeIndex
root_of Leaf = None
root_of (Fork l i r) = Some (record { place = i })

-- the tree's nodes in order
abbrev pub items : Tree → List ℕ
items Leaf = []
items (Fork l i r) = items l ++ i ∷ items r

abbrev pub height : Tree → ℕ
height Leaf = 0
height (Fork l i r) = max (height l) (height r) + 1

-- the first tree on the given side of the node, and the second on the other side
abbrev pub fork_on : Side → Tree → ℕ → Tree → Tree
fork_on Left a i b = Fork a i b
fork_on Right a i b = Fork b i a

-- each number is at most `by` above the other
abbrev pub DifferByAtMost : ℕ → ℕ → ℕ → Type 0
DifferByAtMost by m n = (m ≤ n + by) × (n ≤ m + by)

-- at each node the heights of the two sides differ by at most one
abbrev pub IsHeightBalanced : Tree → Type 0
IsHeightBalanced Leaf = Unit {0}
IsHeightBalanced (Fork l i r) = IsHeightBalanced l × IsHeightBalanced r × DifferByAtMost 1 (height l) (height r)

-- ---- nodes without repetition

abbrev pub IsIn : ℕ → List ℕ → Type 0
IsIn k [] = ⊥
IsIn k (i ∷ is) = (k ≡ i) ⊎ IsIn k is

abbrev pub AreDistinct : List ℕ → Type 0
AreDistinct [] = Unit {0}
AreDistinct (i ∷ is) = (¬ IsIn i is) × AreDistinct is

-- ---- in a list of links

-- each node of the tree is linked to the roots of its two sides, and stores the height
abbrev pub Stands : List Links → Tree → Type 0
Stands ls Leaf = Unit {0}
Stands ls (Fork l i r) = (slice_get ls i ≡ Some (record {
  left = root_of l;
  right = root_of r;
  height = height
      (Fork l i r);
})) × Stands ls l × Stands ls r

-- the tree stands below the root, is balanced, and has no node twice
pub record IsTreeAt (ls : List Links) (root : Option NodeIndex) (t : Tree) : Type 0 where
  pub is_root : root ≡ root_of t
  pub stands : Stands ls t
  pub distinct : AreDistinct (items t)
  pub balanced : IsHeightBalanced t

-- two trees stand, and with the node between them they have no node twice; their heights differ by at most `by`
pub record AreParts (by : ℕ) (ls : List Links) (side : Side) (near : Option NodeIndex) (i : ℕ) (far : Option NodeIndex)
    (a b : Tree) : Type 0 where
  pub near_is : near ≡ root_of a
  pub far_is : far ≡ root_of b
  pub near_stands : Stands ls a
  pub far_stands : Stands ls b
  pub near_balanced : IsHeightBalanced a
  pub far_balanced : IsHeightBalanced b
  pub distinct : AreDistinct (items (fork_on side a i b))
  pub inside : i < length ls
  pub differ : DifferByAtMost by (height a) (height b)

-- two such trees exist
abbrev pub HasParts : ℕ → List Links → Side → Option NodeIndex → ℕ → Option NodeIndex → Type 0
HasParts by ls side near i far = (a : Tree) × (b : Tree) × AreParts by ls side near i far a b

-- all other links are unchanged
pub record AreKeptBut (is : List ℕ) (old new : List Links) : Type 0 where
  pub others : (k : ℕ) → ¬ IsIn k is → slice_get new k ≡ slice_get old k
  pub length_kept : length new ≡ length old

-- a tree with these nodes stands at the root, and only the links of the nodes `changed` have changed
pub record IsRebuilt (changed : List ℕ) (old new : List Links) (root : Option NodeIndex) (is : List ℕ)
    (t : Tree) : Type 0 where
  pub at_root : IsTreeAt new root t
  pub same : items t ≡ is
  pub kept : AreKeptBut changed old new

-- the height h after balancing a node whose sides have heights m and n
pub record IsHeightAfter (m n h : ℕ) : Type 0 where
  pub not_lower : max m n ≤ h
  pub not_higher : h ≤ max m n + 1
  pub level : DifferByAtMost 1 m n → h ≡ max m n + 1

-- another tree of the same nodes replaces two trees and a node between them at the root; no other links have changed
pub record IsRebalanced (old new : List Links) (root : Option NodeIndex) (side : Side) (a : Tree) (i : ℕ)
    (b : Tree) : Type 0 where
  pub tree : Tree
  pub rebuilt : IsRebuilt (items (fork_on side a i b)) old new root (items (fork_on side a i b)) tree
  pub height_after : IsHeightAfter (height a) (height b) (height tree)

-- the near tree is too high by one
pub record IsTooHigh (ls : List Links) (side : Side) (near : Option NodeIndex) (i : ℕ) (far : Option NodeIndex)
    (a b : Tree) : Type 0 where
  pub parts : AreParts 2 ls side near i far a b
  pub two_higher : height a ≡ height b + 2

-- a tree of these nodes replaces t at the root. Only the links of the nodes `changed` have changed, and the height by
-- at most one
pub record IsReplaced (changed : List ℕ) (old new : List Links) (t : Tree) (root : Option NodeIndex)
    (is : List ℕ) : Type 0 where
  pub tree : Tree
  pub rebuilt : IsRebuilt changed old new root is tree
  pub near : DifferByAtMost 1 (height t) (height tree)

-- the first node of t is taken out
pub record IsFirstTaken (old new : List Links) (t : Tree) (first : ℕ) (rest : Option NodeIndex) : Type 0 where
  pub others : List ℕ
  pub same : items t ≡ first ∷ others
  pub replaced : IsReplaced (items t) old new t rest others

-- a tree stands below the root
abbrev pub HasTree : List Links → Option NodeIndex → Type 0
HasTree ls root = (t : Tree) × IsTreeAt ls root t

-- the height that the root stores
abbrev pub height_in : Option Links → ℕ
height_in None = 0
height_in (Some links) = links.height

abbrev pub stored_height : List Links → Option NodeIndex → ℕ
stored_height ls None = 0
stored_height ls (Some i) = height_in (slice_get ls i.place)
